-- Words that are taken off a line one after another, and what they are read as.
use Rattle.std.specs.Prelude.{◌≡◌, ℕ, ◌^◌, ◌<◌, true, false, List, Some, None, Ok, Err, IfOk, IfErr, IsOk, Option, Result, codes}
use Rattle.std.specs.Borrow.{Bor}
use Rattle.std.specs.Iterator.{Drains, Yields}
use Rattle.std.specs.List.{AllZip}
use Rattle.std.specs.Str.Iter.{split_whitespace_steps}
use Rattle.std.specs.Str.Parse.{IsNumeral, digits_value, without_leading_plus}
use Rattle.std.specs.declared.str.SplitWhitespace.{SplitWhitespace}
use Rattle.fields.specs.Any.{arithmetic_of}
use Rattle.fields.specs.Binary.{bytes}
use Rattle.fields.specs.Primes.{listed, residues}
use Rattle.fields.specs.declared.any.AnyField.{AnyField}
use Rattle.fields.specs.declared.fault.FieldFault.{FieldFault}
use Rattle.fields.specs.declared.fault.FieldFault.TheVariants.{Unlisted}
use Rattle.texts.specs.declared.fault.LineFault.{LineFault}
use Rattle.texts.specs.declared.fault.LineFault.TheVariants.{Unknown}

-- the next word has to be the name
abbrev pub Named : List ℕ → Option (Bor (List ℕ)) → Result (Unit {0}) LineFault → Type 0
Named name None result = result ≡ Err Unknown
Named name (Some w) result = (w.now ≡ name → result ≡ Ok tt) × ((w.now ≡ name → ⊥) → result ≡ Err Unknown)

abbrev pub Expected : SplitWhitespace → List ℕ → SplitWhitespace → Result (Unit {0}) LineFault → Type 0
Expected before name after result = (w : Option (Bor (List ℕ))) × split_whitespace_steps before w after × Named name w result

-- what is read of a word, or that it is not understood
abbrev pub Understood : {A E : Type 0} → Result A E → Result A LineFault → Type 0
Understood (Ok n) result = result ≡ Ok n
Understood (Err e) result = result ≡ Err Unknown

-- the next word has to be a number; `gives` says what a text is read as
abbrev pub AsNumber : {A E : Type 0} → (List ℕ → Result A E → Type 0) → Option (Bor (List ℕ)) → Result A LineFault → Type 0
AsNumber gives None result = result ≡ Err Unknown
AsNumber {A} {E} gives (Some w) result = (r : Result A E) × gives w.now r × Understood r result

abbrev pub Numbered : {A E : Type 0} → (List ℕ → Result A E → Type 0) → SplitWhitespace → SplitWhitespace → Result A LineFault → Type 0
Numbered gives before after result = (w : Option (Bor (List ℕ))) × split_whitespace_steps before w after × AsNumber gives w result

-- the field of a modulus that was read, or why there is none
abbrev pub OfModulus : Result ℕ LineFault → Result (Result AnyField FieldFault) LineFault → Type 0
OfModulus (Err e) result = result ≡ Err Unknown
OfModulus (Ok p) result = IfOk result (λ made. IfOk made (λ f. (listed p ≡ true) × (arithmetic_of f ≡ residues p)) × IfErr made (λ e. (listed p ≡ false) × (e ≡ Unlisted))) × IsOk result

-- a field's first word: `gf256`, or `prime` before a modulus
abbrev pub OfKind : {E : Type 0} → (List ℕ → Result ℕ E → Type 0) → List ℕ → (mid after : SplitWhitespace) → Result (Result AnyField FieldFault) LineFault → Type 0
OfKind gives kind mid after result =
    (kind ≡ codes "gf256" → (after ≡ mid) × IfOk result (λ made. IfOk made (λ f. arithmetic_of f ≡ bytes) × IsOk made) × IsOk result)
    × (kind ≡ codes "prime" → (modulus : Result ℕ LineFault) × Numbered gives mid after modulus × OfModulus modulus result)
    × ((kind ≡ codes "gf256" → ⊥) → (kind ≡ codes "prime" → ⊥) → (after ≡ mid) × (result ≡ Err Unknown))

abbrev pub FromKind : {E : Type 0} → (List ℕ → Result ℕ E → Type 0) → Option (Bor (List ℕ)) → (mid after : SplitWhitespace) → Result (Result AnyField FieldFault) LineFault → Type 0
FromKind gives None mid after result = (after ≡ mid) × (result ≡ Err Unknown)
FromKind gives (Some w) mid after result = OfKind gives w.now mid after result

abbrev pub NamesField : {E : Type 0} → (List ℕ → Result ℕ E → Type 0) → (before after : SplitWhitespace) → Result (Result AnyField FieldFault) LineFault → Type 0
NamesField gives before after result = (kind : Option (Bor (List ℕ))) × (mid : SplitWhitespace) × split_whitespace_steps before kind mid × FromKind gives kind mid after result

-- there has to be no word
abbrev pub NoWord : Option (Bor (List ℕ)) → Result (Unit {0}) LineFault → Type 0
NoWord None result = result ≡ Ok tt
NoWord (Some w) result = result ≡ Err Unknown

abbrev pub Ended : SplitWhitespace → SplitWhitespace → Result (Unit {0}) LineFault → Type 0
Ended before after result = (w : Option (Bor (List ℕ))) × split_whitespace_steps before w after × NoWord w result

-- a text is the number n of 16 bits, with or without a plus before its digits
abbrev pub IsNumber : List ℕ → ℕ → Type 0
IsNumber text n = IsNumeral 10 (without_leading_plus text) × (digits_value 10 (without_leading_plus text) ≡ n) × (n < 2 ^ 16)

-- the words that are left are these numbers
abbrev pub AllNumbers : SplitWhitespace → List ℕ → Type 0
AllNumbers line numbers = (ws : List (Bor (List ℕ))) × Drains split_whitespace_steps line ws × AllZip (λ w n. IsNumber w.now n) ws numbers

-- a word that is left is no number
abbrev pub NotAllNumbers : SplitWhitespace → Type 0
NotAllNumbers line =
    (ws : List (Bor (List ℕ))) × (w : Bor (List ℕ)) × (before after : SplitWhitespace) × Yields split_whitespace_steps line ws before × split_whitespace_steps before (Some w) after × ((n : ℕ) → IsNumber w.now n → ⊥)
