-- Repetitions: the first item that repeats an earlier one. Items are compared by their keys, which are texts.
use Rattle.std.specs.Prelude.{ℕ, List, [], ◌∷◌, ◌++◌, if◌then◌else◌, nat_lt, bytes_eq, codes}
use Rattle.std.specs.{List.list_any, List.flat_map, Fmt.signed_decimal}
use Rattle.dd_known.specs.Limits.{farthest}
use Rattle.dd_faults.specs.Tree.{Name, Entry, Vector, Edge, Fault}
use Rattle.dd_written.specs.Values.{word_text, number_text, name_text}
use Rattle.dd_faults.specs.Numbers.{entry_number, entry_value, signed_value}

-- The fault of the first item that has the same key as an earlier one. `seen` lists the keys of the items before this list.
abbrev pub first_repeat : {X : Type 0} → (X → List ℕ) → (X → Fault) → List (List ℕ) → List X → List Fault
first_repeat key f seen [] = []
first_repeat key f seen (x ∷ xs) = if list_any (bytes_eq (key x)) seen then f x ∷ [] else first_repeat key f (seen ++ key x ∷ []) xs

abbrev pub twice_named : List ℕ → List Name → List Fault
twice_named bytes names = first_repeat (name_text bytes) Fault.Twice [] names

-- the label and the first node, with a comma between them
abbrev pub edge_key : List ℕ → Edge → List ℕ
edge_key bytes e = word_text bytes e.label ++ codes "," ++ name_text bytes e.from

abbrev pub twice_label : Edge → Fault
twice_label e = Fault.Twice (Name.Word e.label)

abbrev pub twice_labelled : List ℕ → List Edge → List Fault
twice_labelled bytes es = first_repeat (edge_key bytes) twice_label [] es

-- The key of an entry: its value if that is at most `farthest` in absolute value, otherwise its text in the script. A comma follows. So two vectors
-- whose entries are all at most `farthest` in absolute value have the same key exactly when their entries have the same values.
abbrev pub entry_key : List ℕ → Entry → List ℕ
entry_key bytes e = (if nat_lt farthest (entry_value bytes e) then number_text bytes (entry_number e) else signed_decimal (signed_value bytes e)) ++ codes ","

abbrev pub vector_key : List ℕ → Vector → List ℕ
vector_key bytes v = flat_map (entry_key bytes) v.entries

abbrev pub twice_vector : Vector → Fault
twice_vector v = Fault.TwiceVector

abbrev pub twice_vectors : List ℕ → List Vector → List Fault
twice_vectors bytes vs = first_repeat (vector_key bytes) twice_vector [] vs
