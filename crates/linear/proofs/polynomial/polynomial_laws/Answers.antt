use Rattle.fields.specs.Arithmetic.{total}
use Rattle.fields.proofs.Total.{total-laws}
use Rattle.linear.proofs.Distance.{words_apart}
use Rattle.linear.proofs.Roots.{value-at_zero, roots_bound}
use Rattle.linear.proofs.polynomial.polynomial_laws.Goals as goal

pub returns : goal.returns
returns c = record {
  constant = λ F L p hp. value-at_zero (total F) (total-laws F L) p hp;
  roots = λ F L points p ds hx hp le z. roots_bound (total F) (total-laws F L) points p ds hx hp z le;
  apart = λ F L points p s k ds hx ep es hp hs ne. words_apart (total F) (total-laws F L) p s points k ep es hp hs ds hx ne;
}
