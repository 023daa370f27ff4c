-- The number of queries of a script is at most `most_commands`, the limit on the number of its commands.
use Rattle.std.proofs.Common.{◌≡◌, ℕ, ◌+◌, ◌≤◌, List, [], ◌∷◌, ◌++◌, length, Bool, true, false, Option, None, Some, nat_lt, refl, sym, subst, arith, length-append}
use Rattle.std.proofs.lemmas.Bool.{ltb-false}
use Rattle.std.specs.{Prelude.if◌then◌else◌, List.flat_map, Option.option_or, Option.option_map}
use Rattle.dd_values.specs.Bounds.{most_commands}
use Rattle.dd_commands.specs.declared.script.Written.{Written}
use Rattle.dd_faults.specs.{declared.fault.Fault.Fault, Order.fault_rank, Order.over, Order.better, Order.first_fault}
use Rattle.dd_faults.specs.{Commands.token_faults, Commands.faults_of, Commands.written_faults, lemmas.Nothing.some_stays}
use Rattle.dd_known.specs.declared.known.Context.{Context}
use Rattle.dd_meanings.specs.declared.meaning.Meaning.{Meaning}
use Rattle.dd_query.specs.declared.queries.Query.{Query}
use Rattle.dd_script.specs.Parts.{Parts}
use Rattle.dd_script.specs.Walk.{start, with, context, meaning_at, fault_of, next, Located, located, first_from, after_all, has_topology, script_of}
use Rattle.dd_script.specs.Scripts.{Spells}
use Rattle.dd_faults.specs.declared.fault.Limit.TheVariants as limit
use Rattle.dd_faults.specs.declared.fault.Fault.TheVariants as fault
use Rattle.dd_meanings.specs.declared.meaning.Meaning.TheVariants as meaning

-- ---- options that are None

front_none : {X : Type 0} (a b : Option X) → option_or a b ≡ None → a ≡ None
front_none None b is = refl
front_none (Some x) b is = absurd (cc is)

back_none : {X : Type 0} (a b : Option X) → option_or a b ≡ None → b ≡ None
back_none None b is = is
back_none (Some x) b is = absurd (cc is)

none_mapped : {X Y : Type 0} (f : X → Y) (a : Option X) → option_map f a ≡ None → a ≡ None
none_mapped f None is = refl
none_mapped f (Some x) is = absurd (cc is)

-- ---- the number of a command without a fault

not_over : (passed : Bool) (rest : List Fault) → first_fault (over passed limit.Commands ++ rest) ≡ None → passed ≡ false
not_over true rest is = absurd (some_stays (fault.Size limit.Commands) rest is)
not_over false rest is = refl

within : (x : Context) (w : Written) → first_fault (written_faults x w) ≡ None → nat_lt 1000 x.number ≡ false
within x w is = not_over (nat_lt 1000 x.number) (flat_map (token_faults x.text) w.tokens ++ faults_of x w.command) is

few_numbered : (bytes : List ℕ) (later : Bool) (n : ℕ) (s : Parts) (w : Written) → fault_of bytes later n s w ≡ None → n ≤ 1000
few_numbered bytes later n s w is =
    let x = context bytes later n s in
    ltb-false 1000 n (within x w (front_none (first_fault (written_faults x w)) _ is))

-- ---- the commands

few_commands : (bytes : List ℕ) (later : Bool) (n : ℕ) (s : Parts) (ws : List Written) → n ≤ 1001 → first_from bytes later n s ws ≡ None → n + length ws ≤ 1001
few_commands bytes later n s [] before none = omega (arith, before)
few_commands bytes later n s (w ∷ ws) before none =
    let here : Option Located = option_map (located n) (fault_of bytes later n s w) in
    let rest : Option Located = first_from bytes later (n + 1) (next bytes later n s w) ws in
    let number : n ≤ 1000 = few_numbered bytes later n s w (none_mapped (located n) (fault_of bytes later n s w) (front_none here rest none)) in
    let more : n + 1 + length ws ≤ 1001 = few_commands bytes later (n + 1) (next bytes later n s w) ws (omega (arith, number)) (back_none here rest none) in
    omega (arith, more)

-- ---- the queries

one_more : (qs : List Query) (q : Query) → length (qs ++ q ∷ []) ≤ length qs + 1
one_more qs q = omega (arith, length-append qs (q ∷ []))

one_query : (bytes : List ℕ) (s : Parts) (m : Meaning) → length (with bytes s m).queries ≤ length s.queries + 1
one_query bytes s (meaning.Topology g) = omega arith
one_query bytes s (meaning.Nodes nodes given g) = omega arith
one_query bytes s (meaning.Symbols symbols) = omega arith
one_query bytes s (meaning.Only node symbols) = omega arith
one_query bytes s (meaning.Weights weights) = omega arith
one_query bytes s (meaning.Limits limits) = omega arith
one_query bytes s (meaning.Rule name rule) = omega arith
one_query bytes s (meaning.Automaton name automaton) = omega arith
one_query bytes s (meaning.Configuration name configuration) = omega arith
one_query bytes s (meaning.Query query) = one_more s.queries query

few_made : (bytes : List ℕ) (later : Bool) (n : ℕ) (s : Parts) (ws : List Written) → length (after_all bytes later n s ws).queries ≤ length s.queries + length ws
few_made bytes later n s [] = omega arith
few_made bytes later n s (w ∷ ws) =
    let after = next bytes later n s w in
    let one : length after.queries ≤ length s.queries + 1 = one_query bytes s (meaning_at bytes later n s w) in
    let more : length (after_all bytes later (n + 1) after ws).queries ≤ length after.queries + length ws = few_made bytes later (n + 1) after ws in
    omega (arith, one, more)

within_few : (commands queries : ℕ) → 1 + commands ≤ 1001 → queries ≤ 0 + commands → queries ≤ most_commands
within_few commands queries few made = omega (arith, few, made)

pub few_queries : (bytes : List ℕ) (s : Parts) → Spells bytes s → length s.queries ≤ most_commands
few_queries bytes s spelled =
    let ws : List Written = spelled.tree.commands in
    subst (λ (p : Parts). length p.queries ≤ most_commands) (sym spelled.meaning)
    (within_few (length ws) (length (script_of bytes ws).queries)
    (few_commands bytes (has_topology ws) 1 start ws (omega arith) spelled.faultless) (few_made bytes (has_topology ws) 1 start ws))
