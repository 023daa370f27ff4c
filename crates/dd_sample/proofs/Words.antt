-- The first character of a word, and what `parse` reads from the word, determine which number the word gives.
use Rattle.std.proofs.Common.{◌≡◌, ◌⊎◌, inl, inr, ℕ, zero, suc, ◌≤◌, List, slice_index, Result, Ok, sym, ◌∙◌, ap, subst, arith, decimal}
use Rattle.std.specs.Str.Parse.{IsNumeral, digits_value, without_leading_plus, ParsesUnsigned}
use Rattle.std.proofs.lemmas.Str.Parse.{numerals_by_value, tells_digits, without_leading_plus_none}
use Rattle.std.proofs.lemmas.Fmt.{decimal_digit, first_decimal, parse-decimal, decimal-digits_value}
use Rattle.dd_sample.specs.Sample.{IsWrittenBy}

-- the word begins with a plus or a zero
abbrev pub IsLed : List ℕ → Type 0
IsLed word = (slice_index word 0 ≡ 43) ⊎ (slice_index word 0 ≡ 48)

-- a word that gives the number of a sample begins with neither a plus nor a zero
pub not_led : (word : List ℕ) (n : ℕ) → IsWrittenBy word n → ¬ IsLed word
not_led word n writes (inl plus) = omega (arith, first_decimal n (omega (arith, writes.0.0)) (omega (arith, writes.0.1)), ap (λ w. slice_index w 0) writes.1, plus)
not_led word n writes (inr nought) = omega (arith, first_decimal n (omega (arith, writes.0.0)) (omega (arith, writes.0.1)), ap (λ w. slice_index w 0) writes.1, nought)

-- from a word that gives the number of a sample, `parse` reads that number
pub read_again : {E : Type 0} (word : List ℕ) (n : ℕ) (r : Result ℕ E) → ParsesUnsigned 32 10 word r → IsWrittenBy word n → r ≡ Ok n
read_again word n r parsed writes = parse-decimal 32 n word r (omega (arith, writes.0.1)) (omega (arith, writes.0.1)) writes.1 parsed

-- a number whose decimal digits don't begin with a zero is at least 1
not_0 : (word : List ℕ) (n : ℕ) → word ≡ decimal n → ¬ IsLed word → 1 ≤ n
not_0 word zero is plain = absurd (plain (inr (ap (λ w. slice_index w 0) (is ∙ decimal_digit 0 (omega arith)))))
not_0 word (suc n) is plain = omega arith

-- if `parse` reads a number up to 16384 from a word that begins with neither plus nor zero, the word gives that number
pub written : {E : Type 0} (word : List ℕ) (n : ℕ) (r : Result ℕ E) → r ≡ Ok n → ParsesUnsigned 32 10 word r → ¬ IsLed word → n ≤ 16384
    → IsWrittenBy word n
written word n r is_read parsed plain few =
    let read = subst (ParsesUnsigned 32 10 word) is_read parsed in
    let whole : without_leading_plus word ≡ word = without_leading_plus_none word (λ plus. plain (inl plus)) in
    let numeral : IsNumeral 10 word = subst (IsNumeral 10) whole read.0.0 in
    let value : n ≡ digits_value 10 word = read.1 ∙ ap (digits_value 10) whole in
    let digits : decimal (digits_value 10 word) ≡ word =
    decimal-digits_value (numerals_by_value _ tells_digits) word numeral.1 numeral.0 (λ nought. absurd (plain (inr nought))) (omega (arith, value, few)) in
    let is : word ≡ decimal n = sym (ap decimal value ∙ digits) in
    ((not_0 word n is plain, few), is)
