-- The codes keep the code meaning.
use Rattle.std.proofs.Common.{◌≡◌, ◌↔◌, List, [], ◌∷◌, Ok, refl, ◌∙◌}
use Rattle.codes.specs.Meaning.{Meaning}
use Rattle.evaluation.specs.Evaluated.{evaluates}
use Rattle.layers.proofs.Scale.{scales}
use Rattle.layers.proofs.Trim.{trims}
use Rattle.repetition.proofs.Repeats.{repeats}
use Rattle.piles.specs.Keeping.{Layer, trim, scale, over, Lawful, Suits, pile, AllLawful, Keeps, Piled, CodesKeep}

over-fit : (layer : Layer) (m : Meaning) → Lawful layer → Keeps m → ((over layer m).fitness ≡ Ok tt) ↔ ((m.fitness ≡ Ok tt) × Suits layer m)
over-fit (trim z) m law keeps = (trims z m keeps).fit
over-fit (scale F xs) m law keeps =
    let f = (scales F law xs m keeps).fit in
    (λ e. let p = f.0 e in (p.0, (p.1, p.2, p.3)), λ p. f.1 (p.0, p.1.0, p.1.1, p.1.2))

over-keeps : (layer : Layer) (m : Meaning) → Lawful layer → Keeps m → Keeps (over layer m)
over-keeps (trim z) m law keeps = (trims z m keeps).sound
over-keeps (scale F xs) m law keeps = (scales F law xs m keeps).sound

over-distance : (layer : Layer) (m : Meaning) → (over layer m).distance ≡ m.distance
over-distance (trim z) m = refl
over-distance (scale F xs) m = refl

piled : (m : Meaning) (layers : List Layer) → Keeps m → AllLawful layers → Piled m (pile m layers) layers
piled m [] keeps laws = record { fit = (λ e. (e, tt), λ p. p.0); keeps = keeps; distance = refl }
piled m (layer ∷ layers) keeps laws =
    let here = over-fit layer m laws.0 keeps in
    let rest = piled (over layer m) layers (over-keeps layer m laws.0 keeps) laws.1 in
    record {
      fit = (λ e. let p = rest.fit.0 e in let q = here.0 p.0 in (q.0, (q.1, p.1)), λ p. rest.fit.1 (here.1 (p.0, p.1.0), p.1.1));
      keeps = rest.keeps;
      distance = rest.distance ∙ over-distance layer m;
    }

pub codes_kept : CodesKeep
codes_kept = record {
  evaluations = evaluates;
  repetitions = repeats;
  trims = trims;
  scales = scales;
  piles = piled;
}
