use Rattle.std.proofs.Common.{◌≡◌, refl, subst}
use Rattle.std.proofs.lemmas.{List.Elements.All-contains}
use Rattle.std.specs.List.{Contains}
use Rattle.dd_script.specs.{Parts.Parts, Parts.parts, Kept.IsQueryOf, Kept.IsScriptOf, Questions.pairs_for}
use Rattle.dd_script.proofs.script.Script.pairs.Goals as goal

pub pairs_of-requires-clause-sound : goal.pairs_of-requires-clause-sound
pairs_of-requires-clause-sound c =
    let s : Parts = parts c.get-contents.result.now.known c.get-contents.result.now.made in
    let kept : IsScriptOf s = rw c.get-contents.ensures c.self.invariant in
    kept.known

pub pairs_of-requires-clause-rules : goal.pairs_of-requires-clause-rules
pairs_of-requires-clause-rules c =
    let s : Parts = parts c.get-contents.result.now.known c.get-contents.result.now.made in
    let kept : IsScriptOf s = rw c.get-contents.ensures c.self.invariant in
    rw c.as_slice-rules.ensures kept.rules

pub pairs_of-requires-clause-automata : goal.pairs_of-requires-clause-automata
pairs_of-requires-clause-automata c =
    let s : Parts = parts c.get-contents.result.now.known c.get-contents.result.now.made in
    let kept : IsScriptOf s = rw c.get-contents.ensures c.self.invariant in
    rw c.as_slice-automata.ensures kept.automata

pub pairs_of-requires-clause-within : goal.pairs_of-requires-clause-within
pairs_of-requires-clause-within c =
    let s : Parts = parts c.get-contents.result.now.known c.get-contents.result.now.made in
    let same : c.args.self.now ≡ s = rw (← c.self.view_is, ← c.get-contents.ensures) refl in
    let kept : IsScriptOf s = rw c.get-contents.ensures c.self.invariant in
    let there : Contains s.queries c.args.query.now = subst (λ (t : Parts). Contains t.queries c.args.query.now) same c.requires in
    (All-contains (IsQueryOf s) s.queries c.args.query.now kept.queries there).within

pub returns-in-Ok : goal.returns-in-Ok
returns-in-Ok c =
    let s : Parts = parts c.get-contents.result.now.known c.get-contents.result.now.made in
    let same : s ≡ c.args.self.now = rw (← c.self.view_is, ← c.get-contents.ensures) refl in
    let made = rw (c.as_slice-rules.ensures, c.as_slice-automata.ensures) at c.in-Ok.ensures in
    subst (λ (t : Parts). c.in-Ok.pairs ≡ pairs_for t c.args.query.now) same made.are
