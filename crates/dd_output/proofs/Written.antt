-- Outputs written answer by answer.
use Rattle.std.proofs.Common.{◌≡◌, ℕ, suc, ◌+◌, ◌<◌, List, [], ◌∷◌, ◌++◌, length, get_or, take, sym, ap, ◌∙◌, arith}
use Rattle.std.proofs.lemmas.List.{append_assoc, append-nil, take_more, length-take-le}
use Rattle.dd_certificate.specs.{declared.answer.Answer.Answer, Text.answer_text}
use Rattle.dd_output.specs.Outputs.{answers_text}

-- the text of some answers and one more
answers_and_one : (first : ℕ) (some : List Answer) (a : Answer) → answers_text first (some ++ a ∷ []) ≡ answers_text first some ++ answer_text (first + length some) a
answers_and_one first [] a = append-nil (answer_text first a) ∙ ap (λ n. answer_text n a) (omega arith)
answers_and_one first (b ∷ some) a =
    ap (λ rest. answer_text first b ++ rest) (answers_and_one (suc first) some a ∙ ap (λ n. answers_text (suc first) some ++ answer_text n a) (omega arith))
    ∙ sym (append_assoc (answer_text first b) (answers_text (suc first) some) (answer_text (first + length (b ∷ some)) a))

pub answers_next : (answers : List Answer) (a : Answer) (done next : ℕ) (text : List ℕ)
    → done < length answers → a ≡ get_or answers done a → next ≡ done + 1
    → text ≡ answers_text 1 (take done answers) → text ++ answer_text next a ≡ answers_text 1 (take (done + 1) answers)
answers_next answers a done next text less is is_next so_far =
    let number : next ≡ 1 + length (take done answers) = is_next ∙ omega (arith, length-take-le done answers (omega (arith, less))) in
    let all : take (done + 1) answers ≡ take done answers ++ a ∷ [] =
    take_more answers done a less ∙ ap (λ x. take done answers ++ x ∷ []) (sym is) in
    ap (λ t. t ++ answer_text next a) so_far ∙ ap (λ n. answers_text 1 (take done answers) ++ answer_text n a) number
    ∙ sym (answers_and_one 1 (take done answers) a) ∙ ap (answers_text 1) (sym all)
