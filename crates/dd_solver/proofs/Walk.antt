-- The invariant of the walk down the trail.
use Rattle.std.proofs.Common.{◌≡◌, ℕ, ◌+◌, ◌<◌, Bool, true, false, List, [], ◌∷◌, ◌++◌, reverse, Option, Some, None, refl, sym, subst, length, get_or}
use Rattle.std.proofs.lemmas.{Bool.false≢true, List.reverse-append}
use Rattle.std.specs.Option.{MatchOption}
use Rattle.dd_clause.specs.{declared.clause.Literal.Literal, Clauses.negation}
use Rattle.dd_derivation.specs.declared.propagation.Finding.TheVariants.{Falsified}
use Rattle.dd_derivation.specs.Derivations.{is_among, hint_finding, is_proper}
use Rattle.dd_trail.specs.{declared.trail.Entry.Entry, Trails.falses}
use Rattle.dd_solver.specs.{declared.analysis.Backjump.Backjump, declared.analysis.Choice.TheVariants.Keep}
use Rattle.dd_trail.specs.Reasons.{IsTrail}
use Rattle.dd_solver.specs.searching.Analysis.{marks, Grows, IsMarkedClause, ChoiceSays, Asserts}
use Rattle.dd_solver.proofs.Leads.{Leads, AreFrom, covers_from, leads_conflict, leads_past, leads_kept, leads_forced, proper_more, later_more, later_past}
use Rattle.dd_solver.proofs.Backjumps.{BackjumpIs, backjump_past, backjump_resolved, backjump_kept, backjump_asserts}

pub record Walk (n : ℕ) (known : List (Option (List Literal))) (trail : List Entry) (i : ℕ) (marked : List Bool) (learned : List Literal) (hints : List ℕ) (backjump : Option Backjump) : Type 0 where
  pub leads : Leads known trail i marked learned (reverse hints)
  pub later : AreFrom trail i learned
  pub backjumps : BackjumpIs trail i marked learned backjump
  pub proper : is_proper n learned ≡ true

pub walk_start : (n : ℕ) (known : List (Option (List Literal))) (trail : List Entry) (marked : List Bool) (r : ℕ) → hint_finding known (is_among (falses trail)) r ≡ Falsified → IsMarkedClause known marked r → Walk n known trail (length trail) marked [] (r ∷ []) None
walk_start n known trail marked r h m = record {
  leads = leads_conflict known trail marked r h (covers_from known marked r m);
  later = λ x i. absurd (false≢true i);
  backjumps = refl;
  proper = refl;
}

module _ (n : ℕ) (known : List (Option (List Literal))) (trail : List Entry) (ok : IsTrail n known trail) where
  pub walk_past : (j : ℕ) (d : Entry) (marked : List Bool) (learned : List Literal) (hints : List ℕ) (backjump : Option Backjump) → j < length trail → marks marked (get_or trail j d).literal ≡ false → Walk n known trail (j + 1) marked learned hints backjump → Walk n known trail j marked learned hints backjump
  walk_past j d marked learned hints backjump l m w = record {
    leads = leads_past known trail j d marked learned (reverse hints) l m w.leads;
    later = later_past trail j learned w.later;
    backjumps = backjump_past trail j marked learned backjump w.backjumps;
    proper = w.proper;
  }

  pub walk_kept : (j : ℕ) (d : Entry) (marked : List Bool) (learned : List Literal) (hints : List ℕ) (backjump : Option Backjump) (next : Backjump) → j < length trail → marks marked (get_or trail j d).literal ≡ true → ChoiceSays trail marked backjump j (Keep next) → Walk n known trail (j + 1) marked learned hints backjump → Walk n known trail j marked (learned ++ negation (get_or trail j d).literal ∷ []) hints (Some next)
  walk_kept j d marked learned hints backjump next l m c w = record {
    leads = leads_kept known trail j d marked learned (reverse hints) l w.leads;
    later = later_more trail j d learned l w.later;
    backjumps = backjump_kept trail j d marked learned backjump next l m c w.backjumps;
    proper = proper_more n known trail ok j d learned l w.later w.proper;
  }

  pub walk_resolved : (j : ℕ) (d : Entry) (marked marked' : List Bool) (learned : List Literal) (hints : List ℕ) (backjump : Option Backjump) (r : ℕ) → j < length trail → marks marked (get_or trail j d).literal ≡ true → (get_or trail j d).reason ≡ Some r → Grows marked marked' → IsMarkedClause known marked' r → Walk n known trail (j + 1) marked learned hints backjump → Walk n known trail j marked' learned (hints ++ r ∷ []) backjump
  walk_resolved j d marked marked' learned hints backjump r l m reason grows c w = record {
    leads = subst (Leads known trail j marked' learned) (sym (reverse-append hints (r ∷ []))) (leads_forced n known trail ok j d marked marked' learned (reverse hints) r l reason w.later grows (covers_from known marked' r c) w.leads);
    later = later_past trail j learned w.later;
    backjumps = backjump_resolved trail j d marked marked' learned backjump m w.backjumps;
    proper = w.proper;
  }

  pub walk_backjump : (marked : List Bool) (learned : List Literal) (hints : List ℕ) (backjump : Option Backjump) → Walk n known trail 0 marked learned hints backjump → MatchOption backjump (learned ≡ []) (Asserts trail learned)
  walk_backjump marked learned hints backjump w = backjump_asserts n known trail marked learned backjump ok w.backjumps
