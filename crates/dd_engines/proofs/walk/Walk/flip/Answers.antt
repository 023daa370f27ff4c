use Rattle.std.proofs.Common.{◌≡◌, ℕ, ◌<◌, List, length, ap, subst, sym, ◌∙◌, arith}
use Rattle.std.proofs.lemmas.List.Elements.{All-weaker}
use Rattle.std.specs.List.{All}
use Rattle.dd_clause.specs.{declared.clause.Literal.Literal, Clauses.negation}
use Rattle.dd_engines.specs.walking.Truths.{more, less, changed}
use Rattle.dd_engines.specs.walking.Chains.{HasChain, numbers_of}
use Rattle.dd_engines.proofs.Walking.{chain_there, within_counts, length-changed, flip_walks}
use Rattle.dd_engines.proofs.walk.Walk.flip.Goals as goal

pub raise-requires-clause-linked : goal.raise-requires-clause-linked
raise-requires-clause-linked c = c.requires.listing.linked

pub raise-requires-clause-chain : goal.raise-requires-clause-chain
raise-requires-clause-chain c = chain_there _ _ c.args.chains.now c.args.literal c.requires.listing c.requires.range

pub raise-requires-clause-within : goal.raise-requires-clause-within
raise-requires-clause-within c = within_counts _ _ _ _ _ c.args.chains.now c.args.literal c.requires.walks c.requires.listing c.requires.range

pub lower-requires-clause-linked : goal.lower-requires-clause-linked
lower-requires-clause-linked c = c.requires.listing.linked

pub lower-requires-clause-chain : goal.lower-requires-clause-chain
lower-requires-clause-chain c =
    subst (λ (l : Literal). HasChain c.args.chains.now l) (sym c.negation.ensures)
    (chain_there _ _ c.args.chains.now (negation c.args.literal) c.requires.listing (c.requires.range.0, c.requires.range.1))

pub lower-requires-clause-within : goal.lower-requires-clause-within
lower-requires-clause-within c =
    let counts = c.args.self.now.truths.counts.items in
    let chains = c.args.chains.now in
    let new = c.raise.new.self.counts.items in
    let long : length new ≡ length counts = ap (λ (xs : List ℕ). length xs) c.raise.ensures.counts ∙ length-changed more (numbers_of chains c.args.literal) counts in
    let within : All (λ k. k < length counts) (numbers_of chains (negation c.args.literal)) = within_counts _ _ _ _ _ chains (negation c.args.literal) c.requires.walks c.requires.listing (c.requires.range.0, c.requires.range.1) in
    subst (λ (l : Literal). All (λ k. k < length new) (numbers_of chains l)) (sym c.negation.ensures)
    (All-weaker (λ k. k < length counts) (λ k. k < length new) (λ k h. omega (arith, h, long)) (numbers_of chains (negation c.args.literal)) within)

pub returns-clause-walks : goal.returns-clause-walks
returns-clause-walks c =
    let chains = c.args.chains.now in
    let counts = c.args.self.now.truths.counts.items in
    let made : c.lower.new.self.counts.items ≡ changed less (numbers_of chains (negation c.args.literal)) (changed more (numbers_of chains c.args.literal) counts) =
    c.lower.ensures.counts
    ∙ ap (λ (l : Literal). changed less (numbers_of chains l) c.raise.new.self.counts.items) c.negation.ensures
    ∙ ap (changed less (numbers_of chains (negation c.args.literal))) c.raise.ensures.counts in
    flip_walks _ _ counts _ _ _ _ _ chains c.args.literal c.requires.walks c.requires.listing c.requires.range c.requires.other made c.lower.ensures.listed
