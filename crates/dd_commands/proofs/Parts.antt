-- The parts of a script are cut off one after another. The commands read so far and those in the remaining parts together make up all the commands.
use Rattle.std.proofs.Common.{◌≡◌, ℕ, suc, ◌+◌, ◌<◌, ◌≤◌, List, [], ◌∷◌, ◌++◌, length, take, drop, Some, zero-add, refl, ap, subst, append_assoc, arith, append-nil}
use Rattle.std.specs.List.{prefix_len}
use Rattle.dd_written.specs.reading.Laws.{FormulasAreRead}
use Rattle.dd_commands.specs.{Tree.Mark, Tree.Lexeme, Tree.Written, reading.Parts.is_inside, reading.Parts.written_of}
use Rattle.dd_commands.specs.lemmas.Whole.{written_sound}
use Rattle.dd_commands.specs.Scripts.{parts, stage_after, AreCommands, IsFirstBad, AreWritten, IsBadCommand}

-- The first component of `parts` is the list of tokens before the first `%`. The tokens from this `%` on have the same parts, and no token before
-- their first `%`.
pub cut : (tokens : List Lexeme) → let n = prefix_len is_inside tokens in
    ((parts tokens).0 ≡ take n tokens) × ((parts tokens).1 ≡ (parts (drop n tokens)).1) × ((parts (drop n tokens)).0 ≡ [])
cut [] = (refl, refl, refl)
cut (Lexeme.Mark Mark.Percent ∷ tokens) = (refl, refl, refl)
cut (t ∷ tokens) =
    let rest = cut tokens in
    let more : 1 + prefix_len is_inside tokens ≡ suc (prefix_len is_inside tokens) = omega arith in
    rw more (ap (λ (ts : List Lexeme). t ∷ ts) rest.0, rest.1, rest.2)

-- the first part is what stands between the `%` at the front and the next `%`
pub behind_mark : (tokens : List Lexeme) → 0 < length tokens → (parts tokens).0 ≡ [] → (parts tokens).1 ≡ (parts (drop 1 tokens)).0 ∷ (parts (drop 1 tokens)).1
behind_mark [] some none = absurd (omega (arith, some))
behind_mark (Lexeme.Mark Mark.Percent ∷ tokens) some none = refl
behind_mark (t ∷ tokens) some none = absurd cc

-- ---- what the remaining tokens say about all tokens
-- The first `number` parts of the tokens have been read as the commands `cs`, and `rest` is left. The next command may have the stage `from` or a
-- higher one. If `ws` are the commands of the rest, then `cs` followed by `ws` are all the commands. If the first bad part of the rest has the index
-- `place`, from 0, then the first bad part of all has the number `number + place + 1`, from 1.
pub record Sofar (bytes : List ℕ) (tokens rest : List Lexeme) (cs : List Written) (number from : ℕ) : Type 0 where
  pub at_mark : (parts rest).0 ≡ []
  pub written : (ws : List Written) → AreCommands bytes from (parts rest).1 ws → AreWritten bytes tokens (cs ++ ws)
  pub bad : (place : ℕ) → IsFirstBad bytes from (parts rest).1 place → IsBadCommand bytes tokens (number + suc place)

pub starts : (bytes : List ℕ) (tokens : List Lexeme) → (parts tokens).0 ≡ [] → Sofar bytes tokens tokens [] 0 0
starts bytes tokens clean = record { at_mark = clean; written = λ ws are. (clean, are); bad = λ place is. rw zero-add (clean, is) }

module _ (law : FormulasAreRead) where
  pub goes_on : (bytes : List ℕ) (tokens rest part next : List Lexeme) (cs new : List Written) (number from after : ℕ) (c : Written) → Sofar bytes tokens rest cs number from → (parts rest).1 ≡ part ∷ (parts next).1 → (parts next).0 ≡ []
      → written_of bytes from part ≡ Some c → new ≡ cs ++ c ∷ [] → after ≡ stage_after c → Sofar bytes tokens next new (number + 1) after
  goes_on bytes tokens rest part next cs new number from after c s cut clean is pushed behind =
      let may = written_sound law bytes from part c is in record {
        at_mark = clean;
        written = λ ws are.
            let all : AreWritten bytes tokens (cs ++ c ∷ ws) = s.written (c ∷ ws) (rw cut (may, subst (λ (n : ℕ). AreCommands bytes n (parts next).1 ws) behind are)) in
            rw (pushed, append_assoc cs (c ∷ []) ws) all;
        bad = λ place b.
            let count : number + suc (suc place) ≡ number + 1 + suc place = omega arith in
            subst (IsBadCommand bytes tokens) count (s.bad (suc place) (rw cut (c, may, subst (λ (n : ℕ). IsFirstBad bytes n (parts next).1 place) behind b)));
      }

pub all_read : (bytes : List ℕ) (tokens rest : List Lexeme) (cs : List Written) (number from : ℕ) → Sofar bytes tokens rest cs number from → length rest ≤ 0 → AreWritten bytes tokens cs
all_read bytes tokens [] cs number from s none = subst (AreWritten bytes tokens) (append-nil cs) (s.written [] tt)
all_read bytes tokens (t ∷ rest) cs number from s none = absurd (omega (arith, none))

pub something_before : (tokens : List Lexeme) → 0 < prefix_len is_inside tokens → (parts tokens).0 ≡ [] → ⊥
something_before [] lt none = omega (arith, lt)
something_before (Lexeme.Mark Mark.Percent ∷ tokens) lt none = omega (arith, lt)
something_before (t ∷ tokens) lt none = absurd cc
