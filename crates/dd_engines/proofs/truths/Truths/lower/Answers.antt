use Rattle.std.proofs.Common.{◌≡◌, ℕ, ◌-◌, ◌<◌, List, length, ap, subst, sym, ◌∙◌, arith, get_or}
use Rattle.std.proofs.lemmas.List.{length-set, Elements.All-tail, Elements.All-weaker}
use Rattle.std.specs.List.{All}
use Rattle.dd_engines.specs.walking.{Truths.less, Truths.changed, Chains.chain_of}
use Rattle.dd_engines.proofs.Chaining.{chain_at}
use Rattle.dd_engines.proofs.truths.Truths.lower.Goals as goal

pub loop-at-preserved : goal.loop-at-preserved
loop-at-preserved c =
    let links = c.args.chains.now.links.items in
    let link = c.index-link.result.now in
    let at = c.loop-at.at in
    let counts = c.loop-at.self.counts.items in
    let new = c.lower_one.new.self.counts.items in
    let told = chain_at links at (at - 1) link c.requires.linked.back (omega (arith, c.loop-at-test.true)) c.loop-at.invariant.few c.index-link.ensures in
    let long : length new ≡ length counts = ap (λ (xs : List ℕ). length xs) c.lower_one.ensures.counts ∙ length-set counts link.number (less (get_or counts link.number 0)) in
    let within = subst (λ (ks : List ℕ). All (λ k. k < length counts) ks) told.0 c.loop-at.invariant.within in
    record {
      counts = ap (changed less (chain_of links link.next)) c.lower_one.ensures.counts ∙ ap (λ (ks : List ℕ). changed less ks counts) (sym told.0) ∙ c.loop-at.invariant.counts;
      within = All-weaker (λ k. k < length counts) (λ k. k < length new) (λ k h. omega (arith, h, long)) (chain_of links link.next) (All-tail (λ k. k < length counts) link.number (chain_of links link.next) within);
      few = omega (arith, told.1, c.loop-at.invariant.few);
      listed = c.lower_one.ensures.listed;
    }
