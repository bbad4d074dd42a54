-- What is reported of an outcome.
use Rattle.std.specs.Prelude.{◌≡◌, ℕ, Ok, Err, Result}
use Rattle.file.specs.Faults as fault
use Rattle.file.specs.declared.fault.FileFault.{FileFault}
use Rattle.file.specs.declared.heading.Heading.{Heading}
use Rattle.file.specs.declared.received.Received.{Received}
use Rattle.settings_carrier.specs.declared.report.Report.{Report}
use Rattle.settings_carrier.specs.declared.report.Tally.{Tally}

abbrev pub headed : (kind modulus n k depth : ℕ) → Heading
headed kind modulus n k depth = record { kind = kind; modulus = modulus; n = n; k = k; depth = depth }

-- the heading of a file that was received, and how its strips fared
abbrev pub found : Received → Report
found x = record {
  kind = x.heading.kind;
  n = x.heading.n;
  k = x.heading.k;
  depth = x.heading.depth;
  modulus = x.heading.modulus;
  kept = x.kept;
  declined = x.declined;
  wrong = x.wrong;
  place = 0;
  row = 0;
}

-- the place and the row of a refusal
abbrev pub lost : FileFault → Report
lost f = record {
  kind = 0;
  n = 0;
  k = 0;
  depth = 0;
  modulus = 0;
  kept = 0;
  declined = 0;
  wrong = 0;
  place = fault.place f;
  row = fault.row f;
}

abbrev pub counted : (count place : ℕ) → Tally
counted count place = record { count = count; place = place }

-- a count is told by 0 and the count, a refusal by its number and its place
abbrev pub Tells : Result ℕ FileFault → Tally → ℕ → Type 0
Tells (Ok count) t number = (number ≡ 0) × (t ≡ counted count 0)
Tells (Err f) t number = (number ≡ fault.number f) × (t ≡ counted 0 (fault.place f))
