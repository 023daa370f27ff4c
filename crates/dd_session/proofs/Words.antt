-- What the words of a session ask for.
use Rattle.std.proofs.Common.{◌≡◌, ℕ, List, [], ◌∷◌, length, map, codes, decimal, Option, Some, None, sym, ◌∙◌, ap, arith}
use Rattle.std.proofs.lemmas.{Fmt.decimal_injective, List.length-map}
use Rattle.dd_sample.specs.Sample.{IsNumberOf}
use Rattle.dd_session.specs.Words.{IsOnly, IsSample, IsSampleOf}

abbrev first : List (List ℕ) → List ℕ
first [] = []
first (word ∷ words) = word

abbrev second : List (List ℕ) → List ℕ
second [] = []
second (word ∷ words) = first words

-- a single word isn't both `run` and `check`
pub different : (words : List (List ℕ)) → IsOnly (codes "run") words → ¬ IsOnly (codes "check") words
different words is other =
    let same : 3 ≡ 5 = ap (λ (ws : List (List ℕ)). length (first ws)) (sym is ∙ other) in omega (arith, same)

-- a single word asks for no sample
pub alone : (text : List ℕ) (words : List (List ℕ)) (number : ℕ) → IsOnly text words → ¬ IsSample number words
alone text words number is sample = let same : 1 ≡ 2 = ap (λ (ws : List (List ℕ)). length ws) (sym is ∙ sample.1) in omega (arith, same)

-- the words ask for at most one sample
pub one_sample : (words : List (List ℕ)) (m n : ℕ) → IsSample m words → IsSample n words → m ≡ n
one_sample words m n one other =
    let same : decimal m ≡ decimal n = ap second (sym one.1 ∙ other.1) in
    decimal_injective m n (omega (arith, one.0.1)) (omega (arith, other.0.1)) same

-- ---- two words

-- the words are `sample` and a word that may be the number of a sample
pub two_words : (word number : List ℕ) (found : Option ℕ) → word ≡ codes "sample" → IsNumberOf number found → IsSampleOf (word ∷ number ∷ []) found
two_words word number (Some n) is of = (of.0, ap (λ (w : List ℕ). w ∷ number ∷ []) is ∙ ap (λ (w : List ℕ). codes "sample" ∷ w ∷ []) of.1)
two_words word number None is of = λ n sample.
    of n (sample.0, ap second sample.1)

-- the first of two words is not `sample`
pub another_word : (word number : List ℕ) → ¬ (word ≡ codes "sample") → IsSampleOf (word ∷ number ∷ []) None
another_word word number is_not = λ n sample. is_not (ap first sample.1)

-- there are more than two words, or fewer
pub other_length : {X : Type 0} (text : X → List ℕ) (words : List X) → ¬ (length words ≡ 2) → IsSampleOf (map text words) None
other_length text words is_not = λ n sample. is_not (sym (length-map words text) ∙ ap (λ (ws : List (List ℕ)). length ws) sample.1)
