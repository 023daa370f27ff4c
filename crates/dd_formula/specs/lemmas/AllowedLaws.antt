-- Allowed symbols are symbols of the alphabet.
use Rattle.std.proofs.Common.{◌≡◌, ◌<◌, ◌≤◌, ℕ, Bool, true, false, List, [], length, get_or, arith, Some, None, inl, inr}
use Rattle.std.proofs.{Math.ListN.get_or-eq_default, lemmas.Bool.cases_lt, lemmas.List.Elements.All-get_or}
use Rattle.std.specs.Prelude.{Option, IfSome}
use Rattle.dd_pattern.specs.Reading.{Look, HasSymbolsBelow}
use Rattle.dd_topology.specs.Sets.{SymbolSets, row_allows, IsRow, IsSets}
use Rattle.dd_formula.specs.{LocalRule.LocalRule, LocalRule.rule_allows, LocalRule.IsRule, Allowed.AreAllowed}
use Rattle.dd_values.specs.lemmas.Lists.{nothing_past, empty_row}

allowed_in_row : (n : ℕ) (s : SymbolSets) (a t : ℕ) → IsSets n s → a < length s.allowed → row_allows s.allowed a t ≡ true → t < s.symbols
allowed_in_row n s a t ok below h =
    let row = get_or s.allowed a [] in
    let is : IsRow s.symbols row = All-get_or (IsRow s.symbols) s.allowed a [] below ok.rows in
    let within = nothing_past row t h in
    omega (arith, within, is.as_many)

pub no_row : (rows : List (List Bool)) (a t : ℕ) → length rows ≤ a → row_allows rows a t ≡ false
no_row rows a t high = empty_row (get_or rows a []) t (get_or-eq_default rows [] high)

pub allowed_below : (r : LocalRule) → IsRule r → (a s : ℕ) → rule_allows r a s ≡ true → s < r.symbols
allowed_below r ok a s h =
    elim (cases_lt a (length r.allowed)) [
      | inl low ↦ allowed_in_row r.nodes _ a s ok.allowed low h
      | inr high ↦ absurd (let none = no_row r.allowed a s high in cc)
    ]

given_below : (r : LocalRule) → IsRule r → (a : ℕ) (o : Option ℕ) → IfSome o (λ s. rule_allows r a s ≡ true) → IfSome o (λ s. s < r.symbols)
given_below r ok a None h = tt
given_below r ok a (Some s) h = allowed_below r ok a s h

pub look_below : (r : LocalRule) → IsRule r → (look : Look) → AreAllowed r look → HasSymbolsBelow r.symbols look
look_below r ok look allowed c = given_below r ok c.node (look c) (allowed c)
