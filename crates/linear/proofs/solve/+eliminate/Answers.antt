use Rattle.std.proofs.Common.{◌≡◌, ℕ, suc, ◌+◌, ◌-◌, ◌*◌, ◌<◌, true, false, ◌∷◌, ◌++◌, length, get_or, take, drop, set, replicate, sym, ap, ◌∙◌, subst, ap₂, suc-mul, arith}
use Rattle.std.proofs.lemmas.List.{drop-set, drop-replicate, take_all, length-drop, get_or_append_left}
use Rattle.std.proofs.ByRecursion.{All-get_or, All-weaker}
use Rattle.fields.specs.Numbers.{Zeros, Below}
use Rattle.fields.proofs.Total.{TotalLaws, inverse-none}
use Rattle.linear.specs.Operations.{operations}
use Rattle.linear.proofs.Lawful.{lawful}
use Rattle.linear.specs.Polynomials.{scaled}
use Rattle.linear.specs.Equations.{height, row, dot, Grid, PivotPlaced, Cleared, Solves}
use Rattle.fields.proofs.Algebra.{one_below, zero-below}
use Rattle.linear.proofs.Grid.{row_ends, height_is, length-row, row_first}
use Rattle.linear.proofs.Kernel.{dot-zeros}
use Rattle.linear.proofs.Elimination.{Column, column_made, under_zero, zeros_replicate, rest-grid, step_solves}
use Rattle.linear.proofs.solve.+eliminate.Goals as goal

pub returns-then-not-place_pivot : goal.returns-then-not-place_pivot
returns-then-not-place_pivot g t c =
    let f = c.args.f.now in
    let F = operations g.F.Field f in
    let L : TotalLaws F = lawful g.F.Field f (g.met.F.Field.sizes f) (g.met.F.Field.sums f) (g.met.F.Field.products f) (g.met.F.Field.inverses f) in
    let w = length c.args.v.now in
    let k = c.args.c in
    let s = c.args.rows.now in
    let n = height w s in
    let s' = c.place_pivot.new.rows in
    let none : PivotPlaced F w k s s' false = subst (PivotPlaced F w k s s') c.if-not-place_pivot.true (subst (λ m. PivotPlaced F m k s s' c.place_pivot.result) c.requires.room c.place_pivot.ensures) in
    let z = c.fill.new.self in
    let blank : z ≡ replicate (length c.args.v.now) 0 = c.fill.ensures.after (λ y e. e) in
    let long : length z ≡ length c.args.v.now = c.fill.ensures.len in
    let u : drop k (set z k 1) ≡ 1 ∷ drop (k + 1) z = drop-set z k 1 (omega arith) in
    let zz : Zeros (drop (k + 1) z) = subst Zeros (sym (ap (drop (k + 1)) blank ∙ drop-replicate (k + 1) (length c.args.v.now) 0)) (zeros_replicate (length c.args.v.now - (k + 1))) in
    record {
      solves = λ i l.
          let e : length (row w i s) ≡ w = length-row w i s (omega (arith, row_ends i n w l, c.requires.rows.whole)) in
          ap (dot F (drop k (row w i s))) u ∙ under_zero F L k 1 (row w i s) (drop (k + 1) z) (omega arith) (none i l) (dot-zeros F L (drop (k + 1) (row w i s)) (drop (k + 1) z) zz);
      nonzero = λ h.
          let o : ◌≡◌ {A = ℕ} 1 0 = (subst Zeros u h).0 in
          omega arith;
      below = subst (Below F.order) (sym u) (one_below F L, All-weaker (λ x. x ≡ 0) (λ x. x < F.order) (λ x e. subst (λ (y : ℕ). y < F.order) (sym e) (zero-below F L)) (drop (k + 1) z) zz);
    }

pub unreachable-requires : goal.unreachable-requires
unreachable-requires g t c =
    let f = c.args.f.now in
    let F = operations g.F.Field f in
    let w = length c.args.v.now in
    let k = c.args.c in
    let came : c.place_pivot.result ≡ true = c.if-not-place_pivot.false in
    let old = c.args.rows.now in
    let s = c.place_pivot.new.rows in
    let placed : PivotPlaced F w k old s true = subst (PivotPlaced F w k old s) came (subst (λ m. PivotPlaced F m k old s c.place_pivot.result) c.requires.room c.place_pivot.ensures) in
    let top = c.split_at_mut-first.result.0.now in
    let rest = c.split_at_mut-first.result.1.now in
    let value : s ≡ top ++ rest = c.split_at_mut-first.ensures.value in
    let wide : length top ≡ w = c.split_at_mut-first.ensures.front_len in
    let here : get_or s k 0 ≡ get_or top k 0 = ap (λ l. get_or l k 0) value ∙ get_or_append_left top rest 0 k (omega arith) in
    let grid : Below F.order (row w 0 s) = placed.2 0 placed.0 in
    let grid' : Below F.order top = subst (Below F.order) (ap (row w 0) value ∙ row_first w top rest wide) grid in
    let below : get_or top k 0 < F.order = All-get_or (λ x. x < F.order) top k 0 (omega arith) grid' in
    placed.1 (here ∙ inverse-none (g.F.Field.arithmetic f) (get_or top k 0) c.in_default.ensures below)

pub clear_column-requires : goal.clear_column-requires
clear_column-requires g t c =
    let F = operations g.F.Field c.args.f.now in
    let w = length c.args.v.now in
    let k = c.args.c in
    let old = c.args.rows.now in
    let s = c.place_pivot.new.rows in
    let came : c.place_pivot.result ≡ true = c.if-not-place_pivot.false in
    let placed : PivotPlaced F w k old s true = subst (PivotPlaced F w k old s) came (subst (λ m. PivotPlaced F m k old s c.place_pivot.result) c.requires.room c.place_pivot.ensures) in
    let rest = c.split_at_mut-first.result.1.now in
    let n = height w old - 1 in
    let next : height w old ≡ suc n = omega (arith, placed.0) in
    let times : height w old * w ≡ n * w + w = ap (λ m. m * w) next ∙ suc-mul n w in
    let wide : length c.scale_row.new.row ≡ w = c.scale_row.auto.row ∙ c.split_at_mut-first.ensures.front_len in
    let back : length rest + w ≡ length s = c.split_at_mut-first.ensures.back_len in
    let kept : length s ≡ length old = c.place_pivot.auto.rows in
    let size : n * w ≡ length rest = omega (arith, c.requires.rows.whole) in
    let high : height w rest ≡ n = height_is w n rest (omega (arith, c.requires.column)) size in
    record {
      whole = subst (λ m. height m rest * m ≡ length rest) (sym wide) (ap (λ m. m * w) high ∙ size);
      column = omega (arith, c.requires.column, wide);
    }

pub eliminate-requires : goal.eliminate-requires
eliminate-requires g t c κs falls =
    let f = c.args.f.now in
    let F = operations g.F.Field f in
    let L : TotalLaws F = lawful g.F.Field f (g.met.F.Field.sizes f) (g.met.F.Field.sums f) (g.met.F.Field.products f) (g.met.F.Field.inverses f) in
    let w = length c.args.v.now in
    let k = c.args.c in
    let old = c.args.rows.now in
    let n = height w old - 1 in
    let came : c.place_pivot.result ≡ true = c.if-not-place_pivot.false in
    let s = c.place_pivot.new.rows in
    let placed : PivotPlaced F w k old s true = subst (PivotPlaced F w k old s) came (subst (λ m. PivotPlaced F m k old s c.place_pivot.result) c.requires.room c.place_pivot.ensures) in
    let top = c.split_at_mut-first.result.0.now in
    let rest = c.split_at_mut-first.result.1.now in
    let rest' = c.clear_column.new.rows in
    let value : s ≡ top ++ rest = c.split_at_mut-first.ensures.value in
    let within : k < w = omega (arith, c.requires.column) in
    let wide : length top ≡ w = c.split_at_mut-first.ensures.front_len in
    let first-long : length c.scale_row.new.row ≡ w = c.scale_row.auto.row ∙ wide in
    let next : height w old ≡ suc n = omega (arith, placed.0) in
    let times : height w old * w ≡ n * w + w = ap (λ m. m * w) next ∙ suc-mul n w in
    let back : length rest + w ≡ length s = c.split_at_mut-first.ensures.back_len in
    let kept : length s ≡ length old = c.place_pivot.auto.rows in
    let high : height w rest ≡ n = height_is w n rest (omega (arith, within)) (omega (arith, c.requires.rows.whole)) in
    let cleared : Cleared F w k n rest rest' c.scale_row.new.row =
    subst (λ m. Cleared F w k m rest rest' c.scale_row.new.row) high (subst (λ m. Cleared F m k (height m rest) rest rest' c.scale_row.new.row) first-long c.clear_column.ensures) in
    let made : Column F w k n top rest rest' × (c.scale_row.new.row ≡ scaled F (F.inverse (get_or top k 0)) top) =
    column_made (g.F.Field.arithmetic f) w k (height w old) c.in-Some.inverse s top rest rest' c.scale_row.new.row within placed.0 (c.requires.rows.whole ∙ sym c.place_pivot.auto.rows) value
    wide c.clear_column.auto.rows placed.2 c.in-Some.ensures c.scale_row.ensures cleared in
    let high' : height w rest' ≡ n = height_is w n rest' (omega (arith, within)) made.0.long' in
    let spare : length c.place_pivot.new.spare ≡ w = c.place_pivot.auto.spare ∙ c.requires.room in
    let grid : Grid F w (height w rest') rest' = subst (λ m. Grid F w m rest') (sym high') (rest-grid F L w k n top rest rest' made.0) in (
      omega (arith, c.clear_column.auto.rows, within),
      (falls, (omega (arith, c.requires.column, high', next), (spare, record { whole = ap (λ m. m * w) high' ∙ made.0.long'; grid = grid }))),
    )

pub returns : goal.returns
returns g t c =
    let f = c.args.f.now in
    let F = operations g.F.Field f in
    let L : TotalLaws F = lawful g.F.Field f (g.met.F.Field.sizes f) (g.met.F.Field.sums f) (g.met.F.Field.products f) (g.met.F.Field.inverses f) in
    let w = length c.args.v.now in
    let k = c.args.c in
    let old = c.args.rows.now in
    let n = height w old - 1 in
    let came : c.place_pivot.result ≡ true = c.if-not-place_pivot.false in
    let s = c.place_pivot.new.rows in
    let placed : PivotPlaced F w k old s true = subst (PivotPlaced F w k old s) came (subst (λ m. PivotPlaced F m k old s c.place_pivot.result) c.requires.room c.place_pivot.ensures) in
    let top = c.split_at_mut-first.result.0.now in
    let rest = c.split_at_mut-first.result.1.now in
    let rest' = c.clear_column.new.rows in
    let value : s ≡ top ++ rest = c.split_at_mut-first.ensures.value in
    let within : k < w = omega (arith, c.requires.column) in
    let wide : length top ≡ w = c.split_at_mut-first.ensures.front_len in
    let first-long : length c.scale_row.new.row ≡ w = c.scale_row.auto.row ∙ wide in
    let next : height w old ≡ suc n = omega (arith, placed.0) in
    let times : height w old * w ≡ n * w + w = ap (λ m. m * w) next ∙ suc-mul n w in
    let back : length rest + w ≡ length s = c.split_at_mut-first.ensures.back_len in
    let kept : length s ≡ length old = c.place_pivot.auto.rows in
    let high : height w rest ≡ n = height_is w n rest (omega (arith, within)) (omega (arith, c.requires.rows.whole)) in
    let cleared : Cleared F w k n rest rest' c.scale_row.new.row =
    subst (λ m. Cleared F w k m rest rest' c.scale_row.new.row) high (subst (λ m. Cleared F m k (height m rest) rest rest' c.scale_row.new.row) first-long c.clear_column.ensures) in
    let made : Column F w k n top rest rest' × (c.scale_row.new.row ≡ scaled F (F.inverse (get_or top k 0)) top) =
    column_made (g.F.Field.arithmetic f) w k (height w old) c.in-Some.inverse s top rest rest' c.scale_row.new.row within placed.0 (c.requires.rows.whole ∙ sym c.place_pivot.auto.rows) value
    wide c.clear_column.auto.rows placed.2 c.in-Some.ensures c.scale_row.ensures cleared in
    let high' : height w rest' ≡ n = height_is w n rest' (omega (arith, within)) made.0.long' in
    let v = c.eliminate.new.v in
    let v-long : length v ≡ w = c.eliminate.auto.v in
    let first = c.scale_row.new.row in
    let part : take (length first - (k + 1)) (drop (k + 1) first) ≡ drop (k + 1) first = take_all (length first - (k + 1)) (drop (k + 1) first) (omega (arith, length-drop (k + 1) first)) in
    let part' : take (length v - (k + 1)) (drop (k + 1) v) ≡ drop (k + 1) v = take_all (length v - (k + 1)) (drop (k + 1) v) (omega (arith, length-drop (k + 1) v)) in
    let sum : c.multiply_rows.result ≡ dot F (take (length first - (k + 1)) (drop (k + 1) first)) (take (length v - (k + 1)) (drop (k + 1) v)) = c.multiply_rows.ensures in
    let y : c.negate.result ≡ F.opposite (dot F (drop (k + 1) (scaled F (F.inverse (get_or top k 0)) top)) (drop (k + 1) v)) =
    c.negate.ensures ∙ ap F.opposite (sum ∙ ap₂ (dot F) (part ∙ ap (drop (k + 1)) made.1) part') in
    let u : drop k (set v k c.negate.result) ≡ F.opposite (dot F (drop (k + 1) (scaled F (F.inverse (get_or top k 0)) top)) (drop (k + 1) v)) ∷ drop (k + 1) v =
    drop-set v k c.negate.result (omega arith) ∙ ap (λ x. x ∷ drop (k + 1) v) y in
    let solved : Solves F w (k + 1) n rest' (drop (k + 1) v) = subst (λ m. Solves F w (k + 1) m rest' (drop (k + 1) v)) high' c.eliminate.ensures.solves in
    let all : Solves F w k (suc n) (top ++ rest) (drop k (set v k c.negate.result)) =
    subst (Solves F w k (suc n) (top ++ rest)) (sym u) (step_solves F L w k n top rest rest' made.0 (drop (k + 1) v) solved) in
    let whole : Solves F w k (height w old) s (drop k (set v k c.negate.result)) =
    λ i l. ap (λ r. dot F (drop k (row w i r)) (drop k (set v k c.negate.result))) value ∙ all i (omega (arith, next)) in
    record {
      solves = placed.3 (drop k (set v k c.negate.result)) whole;
      nonzero = λ h. c.eliminate.ensures.nonzero (subst Zeros u h).1;
      below = subst (Below F.order) (sym u) (L.opposite_below _, c.eliminate.ensures.below);
    }
