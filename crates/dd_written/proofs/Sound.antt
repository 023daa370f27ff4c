-- Tokens that are read as a formula are the text of that formula, and the formula may stand where it was read.
use Rattle.std.proofs.Common.{◌≡◌, ℕ, zero, suc, ◌-◌, ◌≤◌, ◌<◌, Bool, true, List, [], ◌∷◌, ◌++◌, map, length, drop, Some, IfSome, refl, sym, ap, subst, ◌∙◌, append_assoc, arith, le-leb, leb-true, inl, inr, nat_le}
use Rattle.std.specs.List.{flat_map, list_all}
use Rattle.std.proofs.lemmas.{Bool.cases_Bool, List.length-map, Option.MatchOption-at_some}
use Rattle.dd_written.specs.Tree.{Word, Mark, Lexeme, Ball, Quantifier, Join, Formula, roll-Formula, Formula-F}
use Rattle.dd_written.specs.Formulas.{text, stands, move_text, term_text, comparand_text, relation_text, ball_text, capital, sign, join_rank, tree_depth, IsWrittenFormula}
use Rattle.dd_written.specs.reading.Readers.{Reader, with_front}
use Rattle.dd_written.specs.reading.Atoms.{moves_at, term_at, comparand_at, relation_at, atom_at, balls_at, quantifier_end, quantifier_at}
use Rattle.dd_written.specs.reading.Formulas.{begins, more_at, chain_at, join_at, level_at, quantified_at, group_end, nested_at, unary_at, formula_at}
use Rattle.dd_written.proofs.Layers.{text_of, stands_of}
use Rattle.dd_written.specs.lemmas.Options.{followed}

moves_sound : (tokens : List Lexeme) → tokens ≡ flat_map move_text (moves_at tokens).0 ++ (moves_at tokens).1
moves_sound (Lexeme.Mark Mark.Dot ∷ Lexeme.Word label ∷ tokens) = ap (λ (ts : List Lexeme). Lexeme.Mark Mark.Dot ∷ Lexeme.Word label ∷ ts) (moves_sound tokens)
moves_sound tokens = refl

balls_sound : (tokens : List Lexeme) → tokens ≡ flat_map ball_text (balls_at tokens).0 ++ (balls_at tokens).1
balls_sound (Lexeme.Word centre ∷ Lexeme.Number radius ∷ tokens) = ap (λ (ts : List Lexeme). Lexeme.Word centre ∷ Lexeme.Number radius ∷ ts) (balls_sound tokens)
balls_sound tokens = refl

-- the tokens are the text of what was read, followed by the rest
abbrev Spells : {X : Type 0} → (X → List Lexeme) → List Lexeme → X × List Lexeme → Type 0
Spells text tokens x = tokens ≡ text x.0 ++ x.1

term_sound : (tokens : List Lexeme) → IfSome (term_at tokens) (Spells term_text tokens)
term_sound (Lexeme.Word first ∷ tokens) = ap (λ (ts : List Lexeme). Lexeme.Word first ∷ ts) (moves_sound tokens)
term_sound tokens = tt

comparand_sound : (tokens : List Lexeme) → IfSome (comparand_at tokens) (Spells comparand_text tokens)
comparand_sound (Lexeme.Number n ∷ tokens) = refl
comparand_sound tokens = term_sound tokens

relation_sound : (tokens : List Lexeme) → IfSome (relation_at tokens) (Spells relation_text tokens)
relation_sound (Lexeme.Mark Mark.Equal ∷ tokens) = followed (comparand_at tokens) _ _ _ (comparand_sound tokens) (λ s e. rw e refl)
relation_sound (Lexeme.Mark Mark.NotEqual ∷ tokens) = followed (comparand_at tokens) _ _ _ (comparand_sound tokens) (λ s e. rw e refl)
relation_sound (Lexeme.Mark Mark.Tilde ∷ tokens) = followed (term_at tokens) _ _ _ (term_sound tokens) (λ t e. rw e refl)
relation_sound (Lexeme.Mark Mark.At ∷ tokens) = followed (term_at tokens) _ _ _ (term_sound tokens) (λ t e. rw e refl)
relation_sound (Lexeme.Mark Mark.Colon ∷ Lexeme.Word w ∷ tokens) = refl
relation_sound (Lexeme.Mark Mark.Colon ∷ Lexeme.Number n ∷ tokens) = refl
relation_sound tokens = tt

-- the tokens are the text of a formula, followed by the rest; the formula may stand at this place and at every looser one
abbrev Takes : List Lexeme → ℕ → Formula × List Lexeme → Type 0
Takes tokens place x = (tokens ≡ text x.0 ++ x.1) × ((p : ℕ) → place ≤ p → stands x.0 p ≡ true)

abbrev IsSound : Reader Formula → ℕ → Type 0
IsSound reader place = (tokens : List Lexeme) → IfSome (reader tokens) (Takes tokens place)

atom_sound : IsSound atom_at 0
atom_sound tokens =
    followed (term_at tokens) _ _ _ (term_sound tokens) (λ t e. followed (relation_at t.1) _ _ _ (relation_sound t.1) (λ r e'. (simp (text_of, append_assoc, e, e'), λ p le. simp stands_of)))

-- the tokens are a variable and its balls in brackets, followed by the rest; there is at least one ball
abbrev Quantifies : List Lexeme → (Word × List Ball) × List Lexeme → Type 0
Quantifies tokens x = (tokens ≡ Lexeme.Word x.0.0 ∷ Lexeme.Mark Mark.OpenList ∷ (flat_map ball_text x.0.1 ++ Lexeme.Mark Mark.CloseList ∷ x.1)) × (nat_le 1 (length x.0.1) ≡ true)

end_sound : (variable : Word) (balls : List Ball) (tokens : List Lexeme) → IfSome (quantifier_end variable balls tokens) (Quantifies (Lexeme.Word variable ∷ Lexeme.Mark Mark.OpenList ∷ (flat_map ball_text balls ++ tokens)))
end_sound variable (b ∷ bs) (Lexeme.Mark Mark.CloseList ∷ tokens) = (refl, le-leb 1 (suc (length bs)) (omega arith))
end_sound variable balls tokens = tt

quantifier_sound : (tokens : List Lexeme) → IfSome (quantifier_at tokens) (Quantifies tokens)
quantifier_sound (Lexeme.Word variable ∷ Lexeme.Mark Mark.OpenList ∷ tokens) =
    subst (λ (ts : List Lexeme). IfSome (quantifier_end variable (balls_at tokens).0 (balls_at tokens).1) (Quantifies (Lexeme.Word variable ∷ Lexeme.Mark Mark.OpenList ∷ ts)))
    (sym (balls_sound tokens)) (end_sound variable (balls_at tokens).0 (balls_at tokens).1)
quantifier_sound tokens = tt

-- ---- chains

-- the text of the parts after the first, each preceded by the sign
abbrev pub more_text : Join → List Formula → List Lexeme
more_text j fs = flat_map (λ u. Lexeme.Mark (sign j) ∷ u) (map text fs)

begins_sound : (j : Join) (tokens : List Lexeme) → begins j tokens ≡ true → tokens ≡ Lexeme.Mark (sign j) ∷ drop 1 tokens
begins_sound Join.And (Lexeme.Mark Mark.And ∷ tokens) e = refl
begins_sound Join.Or (Lexeme.Mark Mark.Or ∷ tokens) e = refl
begins_sound Join.Implies (Lexeme.Mark Mark.Arrow ∷ tokens) e = refl
begins_sound Join.Iff (Lexeme.Mark Mark.BothWays ∷ tokens) e = refl
begins_sound j tokens e = absurd cc

-- The tokens are the parts as `more_text` writes them, followed by the rest. Each part may stand at this place. If the tokens begin with the sign and
-- n isn't 0, there is at least one part.
abbrev TakesMore : Join → ℕ → ℕ → List Lexeme → List Formula × List Lexeme → Type 0
TakesMore j place n tokens x = (tokens ≡ more_text j x.0 ++ x.1) × (list_all (λ (h : ℕ → Bool). h place) (map stands x.0) ≡ true) × (begins j tokens ≡ true → 0 < n → 0 < length x.0)

chain_stands : (j : Join) (place : ℕ) (f : Formula) (fs : List Formula) → join_rank j ≡ suc place → stands f place ≡ true → list_all (λ (h : ℕ → Bool). h place) (map stands fs) ≡ true → 0 < length fs
    → (p : ℕ) → suc place ≤ p → stands (roll-Formula (Formula-F.Chain j (f ∷ fs))) p ≡ true
chain_stands j place f fs ranked first others some p le =
    let before : join_rank j - 1 ≡ place = omega (arith, ranked) in
    let two : nat_le 2 (length (map stands (f ∷ fs))) ≡ true = le-leb 2 (length (map stands (f ∷ fs))) (omega (arith, length-map fs stands, some)) in
    let fits : nat_le (join_rank j) p ≡ true = le-leb (join_rank j) p (omega (arith, ranked, le)) in
    let all : list_all (λ (h : ℕ → Bool). h (join_rank j - 1)) (map stands (f ∷ fs)) ≡ true = subst (λ (p : ℕ). list_all (λ (h : ℕ → Bool). h p) (map stands (f ∷ fs)) ≡ true) (sym before) (rw (first, others) refl) in
    rw (stands_of (Formula-F.Chain j (f ∷ fs)) p, fits, two) all

module _ (j : Join) (part : Reader Formula) (place : ℕ) (ranked : join_rank j ≡ suc place) (sound : IsSound part place) where
  more_sound : (n : ℕ) (tokens : List Lexeme) → IfSome (more_at j part n tokens) (TakesMore j place n tokens)
  more_sound zero tokens = (refl, refl, λ there some. absurd (omega (arith, some)))
  more_sound (suc n) tokens = elim (cases_Bool (begins j tokens)) [
    | inl e ↦
        rw e (followed (part (drop 1 tokens)) _ _ _ (sound (drop 1 tokens)) (λ f t. followed (more_at j part n f.1) _ _ _ (more_sound n f.1) (λ m s.
        (begins_sound j tokens e ∙ rw (t.0, s.0) (simp append_assoc), rw (t.1 place (omega arith), s.1) refl, λ there some. omega arith))))
    | inr e ↦ rw e (refl, refl, λ there some. absurd cc)
  ]

  chain_sound : IsSound (chain_at j part) (suc place)
  chain_sound tokens = followed (part tokens) _ _ _ (sound tokens) (λ f t. elim (cases_Bool (begins j f.1)) [
    | inl e ↦
        let more = more_at j part (length f.1) f.1 in
        rw e (followed (with_front (f.0 ∷ []) more) _ (λ m. Takes tokens (suc place) (roll-Formula (Formula-F.Chain j m.0), m.1)) _ (followed more _ _ _ (more_sound (length f.1) f.1) (λ m r.
        (t.0 ∙ rw r.0 (simp (text_of, append_assoc)), chain_stands j place f.0 m.0 ranked (t.1 place (omega arith)) r.1 (r.2 e (omega (arith, ap length (begins_sound j f.1 e))))))) (λ m r. r))
    | inr e ↦ rw e (t.0, λ p le. t.1 p (omega (arith, le)))
  ])

-- for each place from 1 to 4, the sign that `join_at` gives has this place as its rank
pub rank_join : (place : ℕ) → place < 4 → join_rank (join_at (suc place)) ≡ suc place
rank_join zero lt = refl
rank_join (suc zero) lt = refl
rank_join (suc (suc zero)) lt = refl
rank_join (suc (suc (suc zero))) lt = refl
rank_join (suc (suc (suc (suc n)))) lt = absurd (omega (arith, lt))

group_end_sound : (f : Formula) (before tokens : List Lexeme) → Takes before 4 (f, tokens) → IfSome (group_end f tokens) (Takes (Lexeme.Mark Mark.Open ∷ before) 0)
group_end_sound f before (Lexeme.Mark Mark.Close ∷ tokens) t = (simp (text_of, append_assoc, t.0), λ p le. rw (stands_of (Formula-F.Group f) p) (t.1 4 (omega arith)))
group_end_sound f before tokens t = tt

module _ (unary : Reader Formula) (sound : IsSound unary 0) where
  level_sound : (place : ℕ) → place ≤ 4 → IsSound (level_at unary place) place
  level_sound zero le = sound
  level_sound (suc place) le = chain_sound (join_at (suc place)) (level_at unary place) place (rank_join place (omega (arith, le))) (level_sound place (omega (arith, le)))

  quantified_sound : (q : Quantifier) (tokens : List Lexeme) → IfSome (quantified_at unary q tokens) (Takes (Lexeme.Mark (capital q) ∷ tokens) 0)
  quantified_sound q tokens =
      followed (quantifier_at tokens) _ _ _ (quantifier_sound tokens) (λ h e. followed (unary h.1) _ _ _ (sound h.1) (λ f t. (simp (text_of, append_assoc, e.0, t.0), λ p le. simp (stands_of, e.1, t.1 0 (omega arith)))))

  nested_sound : IsSound (nested_at unary) 0
  nested_sound (Lexeme.Mark Mark.Not ∷ tokens) = followed (unary tokens) _ _ _ (sound tokens) (λ f t. (simp (text_of, t.0), λ p le. rw (stands_of (Formula-F.Not f.0) p) (t.1 0 (omega arith))))
  nested_sound (Lexeme.Mark Mark.All ∷ tokens) = quantified_sound Quantifier.All tokens
  nested_sound (Lexeme.Mark Mark.Exists ∷ tokens) = quantified_sound Quantifier.Exists tokens
  nested_sound (Lexeme.Mark Mark.Open ∷ tokens) = followed (level_at unary 4 tokens) _ _ _ (level_sound 4 (omega arith) tokens) (λ f t. group_end_sound f.0 tokens f.1 t)
  nested_sound tokens = atom_sound tokens

unary_sound : (budget : ℕ) → IsSound (unary_at budget) 0
unary_sound zero = atom_sound
unary_sound (suc budget) = nested_sound (unary_at budget) (unary_sound budget)

pub formula_sound : (tokens : List Lexeme) (x : Formula × List Lexeme) → formula_at tokens ≡ Some x → (tokens ≡ text x.0 ++ x.1) × IsWrittenFormula x.0
formula_sound tokens x e =
    MatchOption-at_some (Unit {0}) (λ (y : Formula × List Lexeme). (tokens ≡ text y.0 ++ y.1) × IsWrittenFormula y.0) x e (followed (level_at (unary_at 64) 4 tokens) _ _ _ (level_sound (unary_at 64) (unary_sound 64) 4 (omega arith) tokens) (λ f t. elim (cases_Bool (nat_le (tree_depth f.0) 64)) [
      | inl within ↦ rw within (t.0, record { grouped = t.1 4 (omega arith); shallow = leb-true (tree_depth f.0) 64 within })
      | inr deep ↦ rw deep tt
    ]))
