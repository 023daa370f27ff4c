-- Edges without faults, with numbers in place of names, are edges of a topology. No two of them that leave the same node have the same label.
use Rattle.std.proofs.Common.{◌≡◌, ℕ, ◌<◌, true, List, [], ◌∷◌, ◌++◌, length, map, take, slice_index_or, Some, Contains, sym, ap, ◌∙◌, subst, arith, if◌then◌else◌, bytes_eq, is_some}
use Rattle.std.proofs.lemmas.{Grind.common_steps, Bool.Decides.nat_tests, List.length-map, List.take-map}
use Rattle.std.proofs.lemmas.List.{Folds.list_all-map, Sums.list_all-from_AllPass}
use Rattle.std.proofs.lemmas.List.Elements.{All-contains, All-contains_itself, All-take, Contains-get_or}
use Rattle.std.proofs.lemmas.Slice.Eq.{bytes_eq-Decides}
use Rattle.std.proofs.lemmas.Option.{slice_get_within, slice_get-map, slice_get-get_or}
use Rattle.std.specs.{Prelude.◌||◌, List.All, List.list_any, List.list_all, List.flat_map, Option.option_map}
use Rattle.dd_written.specs.Values.{name_text}
use Rattle.dd_meanings.specs.Tree.{Edge as Written, Command, Context}
use Rattle.dd_meanings.specs.Topologies.{first_seen_names, label_text, labels_of, edge_of}
use Rattle.dd_topology.specs.{declared.edge.Edge.Edge, Topology.starts_alike, Naming.number_of, Grid.is_edge, Grid.IsFirstTwice}
use Rattle.dd_topology.specs.lemmas.ListLaws.{some_passes}
use Rattle.dd_values.specs.lemmas.Members.{Contains-map, Contains-from_map}
use Rattle.dd_faults.specs.{Repeats.edge_key, Repeats.twice_label, Repeats.twice_labelled, Commands.edge_faults, Commands.faults_of}
use Rattle.dd_faults.specs.lemmas.Repeats.{among, once}
use Rattle.dd_known.specs.Known.{dimension_of}
use Rattle.dd_query.specs.lemmas.Offsets.{offset_is}
use Rattle.dd_meanings.proofs.{Nothing.parts, Nothing.none_at, NameLaws.is_found, NameLaws.same_name}

-- ---- labels in order of first occurrence

-- a name that is in `seen`, or among the names that come later, is in the list of names in order of first occurrence
seen_all : (seen ns : List (List ℕ)) (m : List ℕ) → (list_any (bytes_eq m) seen || list_any (bytes_eq m) ns) ≡ true → list_any (bytes_eq m) (first_seen_names seen ns) ≡ true
seen_all seen [] m h = grind (arith, common_steps)
seen_all seen (n ∷ ns) m h = grind (arith, common_steps, nat_tests, bytes_eq-Decides, seen_all (if list_any (bytes_eq n) seen then seen else seen ++ n ∷ []) ns m)

-- ---- the edges of a command without a fault

-- the edge has no fault, and its label is among the labels
abbrev IsLabelled : Context → List (List ℕ) → Written → Type 0
IsLabelled x labels e = (edge_faults x e ≡ []) × (is_some (number_of labels (label_text x.text e)) ≡ true)

one_edge : (x : Context) (labels : List (List ℕ)) (e : Written) → IsLabelled x labels e → is_edge (dimension_of x.known) (length x.known.setting.nodes) (length labels) (edge_of x.text labels x.known.setting.nodes e) ≡ true
one_edge x labels e (h, label) =
    let offset = offset_is x.text (dimension_of x.known) e.offset (grind (arith, parts)) (grind (arith, parts)) in
    grind (arith, parts)

-- edges with the same label and the same first node have the same key: the text of the label, a comma, and the text of the node
same_key : (x : Context) (labels : List (List ℕ)) (e f : Written) → IsLabelled x labels e → IsLabelled x labels f
    → starts_alike (edge_of x.text labels x.known.setting.nodes e) (edge_of x.text labels x.known.setting.nodes f) ≡ true → edge_key x.text e ≡ edge_key x.text f
same_key x labels e f (h, label) (g, label') alike =
    let one = same_name labels (label_text x.text e) (label_text x.text f) label label' (grind (arith, common_steps)) in
    let other = same_name x.known.setting.nodes (name_text x.text e.from) (name_text x.text f.from) (grind (arith, parts)) (grind (arith, parts)) (grind (arith, common_steps)) in
    (cc)

module _ (x : Context) (es : List Written) (h : faults_of x (Command.Edges es) ≡ []) where
  abbrev labels : List (List ℕ)
  labels = labels_of x.text es

  abbrev numbered : Written → Edge
  numbered = edge_of x.text labels x.known.setting.nodes

  are_labelled : All (IsLabelled x labels) es
  are_labelled i d lt =
      let e = slice_index_or es i d in
      let each : flat_map (edge_faults x) es ≡ [] = grind (arith, parts) in
      let named = Contains-map (label_text x.text) es e (Contains-get_or es i d lt) in
      (none_at (edge_faults x) es i d lt each, is_found labels (label_text x.text e) ∙ seen_all [] (map (label_text x.text) es) (label_text x.text e) (among (map (label_text x.text) es) (label_text x.text e) named))

  pub are_edges : list_all (is_edge (dimension_of x.known) (length x.known.setting.nodes) (length labels)) (map numbered es) ≡ true
  are_edges =
      let fits = is_edge (dimension_of x.known) (length x.known.setting.nodes) (length labels) in
      list_all-map fits numbered es ∙ list_all-from_AllPass (λ e. fits (numbered e)) es (λ i d lt. one_edge x labels (slice_index_or es i d) (are_labelled i d lt))

  pub not_twice : (label : ℕ) → IsFirstTwice (map numbered es) label → ⊥
  not_twice label twice =
      let i = twice.at in
      let found = some_passes (starts_alike twice.edge) (take i (map numbered es)) twice.repeats in
      let before : Contains (map numbered (take i es)) found.0 = subst (λ (xs : List Edge). Contains xs found.0) (take-map numbered i es) found.1 in
      let other = Contains-from_map numbered (take i es) found.0 before in
      let f = other.0 in
      let lt : i < length es = rw (length-map es numbered) at (slice_get_within (map numbered es) i twice.edge twice.stands) in
      let e : Written = slice_index_or es i f in
      let stands : Some twice.edge ≡ Some (numbered e) = sym twice.stands ∙ (slice_get-map numbered es i ∙ ap (option_map numbered) (slice_get-get_or es i f lt)) in
      let here : twice.edge ≡ numbered e = cc stands in
      let alike : starts_alike (numbered e) (numbered f) ≡ true = ap (λ (y : Edge). starts_alike y (numbered f)) (sym here) ∙ (ap (λ (y : Edge). starts_alike twice.edge y) (sym other.2) ∙ found.2) in
      let there : Contains es f = All-contains (Contains es) (take i es) f (All-take (Contains es) i es (All-contains_itself es)) other.1 in
      let same = same_key x labels e f (are_labelled i f lt) (All-contains (IsLabelled x labels) es f are_labelled there) alike in
      let none : twice_labelled x.text es ≡ [] = grind (arith, parts) in
      once (edge_key x.text) twice_label es i f none lt (subst (Contains (map (edge_key x.text) (take i es))) (sym same) (Contains-map (edge_key x.text) (take i es) f other.1))
