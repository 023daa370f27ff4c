-- The lines of the first queries, with the line of the next query added.
use Rattle.std.proofs.Common.{◌≡◌, ℕ, ◌+◌, ◌<◌, List, [], ◌∷◌, ◌++◌, length, take, get_or, refl, sym, ◌∙◌, ap, subst, append-nil, append_assoc, length-take-le, arith}
use Rattle.std.proofs.lemmas.List.{take_more}
use Rattle.dd_query.specs.declared.queries.Query.{Query}
use Rattle.dd_script.specs.Parts.{Parts}
use Rattle.dd_examples.specs.Lines.{IsLine, AreLines}

-- the lines of some queries, followed by the line of one more, are the lines of all of them
line_added : (s : Parts) (number next : ℕ) (qs : List Query) (q : Query) (text line : List ℕ)
    → AreLines s number qs text → IsLine s next q line → next ≡ number + length qs → AreLines s number (qs ++ q ∷ []) (text ++ line)
line_added s number next [] q text line is_text is_line at =
    let same : next ≡ number = omega (arith, at) in record {
      line = line;
      rest = [];
      first = subst (λ (n : ℕ). IsLine s n q line) same is_line;
      others = refl;
      whole = ap (λ (t : List ℕ). t ++ line) is_text ∙ sym (append-nil line);
    }
line_added s number next (p ∷ qs) q text line is_text is_line at =
    let further : next ≡ number + 1 + length qs = omega (arith, at) in record {
      line = is_text.line;
      rest = is_text.rest ++ line;
      first = is_text.first;
      others = line_added s (number + 1) next qs q is_text.rest line is_text.others is_line further;
      whole = ap (λ (t : List ℕ). t ++ line) is_text.whole ∙ append_assoc is_text.line is_text.rest line;
    }

-- the lines of the first `done` queries, followed by the line of the next one, are the lines of the first `done + 1` queries
pub line_next : (s : Parts) (queries : List Query) (done next : ℕ) (q : Query) (text line : List ℕ)
    → done < length queries → q ≡ get_or queries done q → next ≡ done + 1
    → AreLines s 1 (take done queries) text → IsLine s next q line → AreLines s 1 (take (done + 1) queries) (text ++ line)
line_next s queries done next q text line less is at is_text is_line =
    let behind : next ≡ 1 + length (take done queries) = omega (arith, at, length-take-le done queries (omega (arith, less))) in
    subst (λ (qs : List Query). AreLines s 1 qs (text ++ line))
    (ap (λ (x : Query). take done queries ++ x ∷ []) is ∙ sym (take_more queries done q less))
    (line_added s 1 next (take done queries) q text line is_text is_line behind)
