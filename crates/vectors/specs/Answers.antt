-- Answers that say the same.
use Rattle.std.specs.Prelude.{◌≡◌, vec_items}
use Rattle.vectors.specs.declared.questions.Answer.{Answer}
use Rattle.vectors.specs.declared.questions.Answer.TheVariants.{Accepted, Refused, Message}

-- both accept, or refuse by one number, or have one message and wrong count
abbrev pub Same : Answer → Answer → Type 0
Same Accepted Accepted = Unit {0}
Same Accepted (Refused b) = ⊥
Same Accepted (Message m f) = ⊥
Same (Refused a) Accepted = ⊥
Same (Refused a) (Refused b) = a ≡ b
Same (Refused a) (Message m f) = ⊥
Same (Message l e) Accepted = ⊥
Same (Message l e) (Refused b) = ⊥
Same (Message l e) (Message m f) = (vec_items l ≡ vec_items m) × (e ≡ f)
