-- A round keeps the engines, and so do several rounds, one after the other. Unless memory runs out, `FirstAsked` holds after a round.
use Rattle.std.proofs.Common.{◌≡◌, ◌≢◌, ◌-◌, ◌^◌, ◌<◌, List, [], ◌∷◌, true, refl, sym, ◌∙◌, ⊎_elim, arith}
use Rattle.dd_engines.specs.Rounds.{Seen, AskedOnce, AskedSince, Later, Round, End, found, nothing, memory, all_asked, was_found, before_asking, at_asking, gave_nothing, was_dropped, Kept, none_left, stayed, let_go, FirstAsked, nobody, first, went, IsHeadAsked, one_was_asked}

asked_later : (old new : Seen) → AskedOnce old new → Later old new
asked_later old new once = record {
  same = once.same;
  asked = ⊎_elim (λ more. omega (arith, more)) (λ full. omega (arith, full.0, full.1)) once.asked;
  given = once.given;
}

same_later : (e : Seen) → Later e e
same_later e = record { same = refl; asked = omega arith; given = omega arith }

later_later : (a b c : Seen) → Later a b → Later b c → Later a c
later_later a b c p q = record { same = q.same ∙ p.same; asked = omega (arith, p.asked, q.asked); given = omega (arith, p.given, q.given) }

pub kept_same : (all : List Seen) → Kept all all
kept_same [] = none_left
kept_same (e ∷ rest) = stayed e e rest rest (same_later e) (kept_same rest)

pub kept_from_round : (before after : List Seen) (end : End) → Round before after end → Kept before after
kept_from_round _ _ _ (all_asked end not_found) = none_left
kept_from_round _ _ _ (was_found old new rest once rose) = stayed old new rest rest (asked_later old new once) (kept_same rest)
kept_from_round _ _ _ (before_asking all) = kept_same all
kept_from_round _ _ _ (at_asking old new rest once) = stayed old new rest rest (asked_later old new once) (kept_same rest)
kept_from_round _ _ _ (gave_nothing old new before after end once same more) = stayed old new before after (asked_later old new once) (kept_from_round before after end more)
kept_from_round _ _ _ (was_dropped old before after end unsound more) = let_go old before after unsound (kept_from_round before after end more)

pub kept_kept : (a b c : List Seen) → Kept a b → Kept b c → Kept a c
kept_kept _ _ c none_left q = q
kept_kept _ _ _ (stayed old mid before middle p ps) (stayed _ new _ after q qs) = stayed old new before after (later_later old mid new p q) (kept_kept before middle after ps qs)
kept_kept _ _ c (stayed old mid before middle p ps) (let_go _ _ _ unsound qs) = let_go old before c (sym p.same ∙ unsound) (kept_kept before middle c ps qs)
kept_kept _ b c (let_go old before _ unsound ps) q = let_go old before c unsound (kept_kept before b c ps q)

asked_since : (old new : Seen) → AskedOnce old new → AskedSince old new
asked_since old new once = record {
  later = asked_later old new once;
  asked = ⊎_elim (λ more. omega (arith, more)) (λ full. omega (arith, full.0, full.1)) once.asked;
}

since_later : (a b c : Seen) → Later a b → AskedSince b c → AskedSince a c
since_later a b c p q = record { later = later_later a b c p q.later; asked = omega (arith, p.asked, q.asked) }

-- if `FirstAsked` holds, the engines are kept
pub kept_from_first : (before after : List Seen) → FirstAsked before after → Kept before after
kept_from_first _ _ nobody = none_left
kept_from_first _ _ (first {old = old} {new = new} {before = before} {after = after} since kept) = stayed old new before after since.later kept
kept_from_first _ _ (went {old = old} {before = before} {after = after} unsound asked) = let_go old before after unsound (kept_from_first before after asked)

-- if the engines are kept from a to b, and `FirstAsked` holds from b to c, it holds from a to c
pub first_after : (a b c : List Seen) → Kept a b → FirstAsked b c → FirstAsked a c
first_after _ _ _ none_left nobody = nobody
first_after _ _ _ (stayed old mid before middle p ps) (first {new = new} {after = after} q qs) = first (since_later old mid new p q) (kept_kept before middle after ps qs)
first_after _ _ c (stayed old mid before middle p ps) (went unsound q) = went (sym p.same ∙ unsound) (first_after before middle c ps q)
first_after _ b c (let_go old before _ unsound ps) q = went unsound (first_after before b c ps q)

-- if `FirstAsked` holds, a sound engine that was first is not dropped: it is still first, and was asked in the meantime
pub head_asked : (old : Seen) (before after : List Seen) → old.sound ≡ true → FirstAsked (old ∷ before) after → IsHeadAsked old after
head_asked old before _ sound (first since kept) = since
head_asked old before _ sound (went unsound asked) = absurd (cc (sound, unsound))

not_by_itself : (old : Seen) → old.asked < 2 ^ 64 - 1 → AskedSince old old → ⊥
not_by_itself old few since = omega (arith, few, since.asked)

pub asked_changes : (old : Seen) (before after : List Seen) → old.sound ≡ true → old.asked < 2 ^ 64 - 1 → FirstAsked (old ∷ before) (old ∷ after) → ⊥
asked_changes old before after sound few asked = not_by_itself old few (head_asked old before (old ∷ after) sound asked)

pub not_of_pair : FirstAsked one_was_asked one_was_asked → ⊥
not_of_pair asked = asked_changes _ _ _ refl (omega arith) asked

first_asked : (before after : List Seen) (end : End) → Round before after end → end ≢ memory → FirstAsked before after
first_asked _ _ _ (all_asked end not_found) _ = nobody
first_asked _ _ _ (was_found old new rest once rose) _ = first (asked_since old new once) (kept_same rest)
first_asked _ _ _ (before_asking all) not_memory = absurd (not_memory refl)
first_asked _ _ _ (at_asking old new rest once) not_memory = absurd (not_memory refl)
first_asked _ _ _ (gave_nothing old new before after end once same more) _ = first (asked_since old new once) (kept_from_round before after end more)
first_asked _ _ _ (was_dropped old before after end unsound more) not_memory = went unsound (first_asked before after end more not_memory)

pub first_asked_found : (before after : List Seen) → Round before after found → FirstAsked before after
first_asked_found before after round = first_asked before after found round (λ e. cc e)

pub first_asked_nothing : (before after : List Seen) → Round before after nothing → FirstAsked before after
first_asked_nothing before after round = first_asked before after nothing round (λ e. cc e)
