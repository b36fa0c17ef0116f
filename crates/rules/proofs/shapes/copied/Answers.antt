use Rattle.std.proofs.Common.{◌≡◌, ◌<◌, min, [], ◌∷◌, ◌++◌, map, length, get_or, take, sym, refl, ap, ◌∙◌, arith, length-set}
use Rattle.std.proofs.lemmas.List.{take_min, take_more_set, map_more}
use Rattle.rules.proofs.shapes.copied.Goals as goal

pub loop-i-init : goal.loop-i-init
loop-i-init c = (refl, refl)

pub loop-i-preserved : goal.loop-i-preserved
loop-i-preserved c =
    let rows = c.args.rows.now in
    let i = c.loop-i.i in
    let all = c.loop-i.all in
    let v = (get_or rows i (record { shape = 0 })).shape in
    let h : i < length all = omega arith in
    let k : i < length rows = omega arith in (
      length-set all i v ∙ c.loop-i.invariant.0,
      take_more_set all i v h ∙ ap (λ l. l ++ v ∷ []) c.loop-i.invariant.1 ∙ sym (map_more (λ r. r.shape) rows i (record { shape = 0 }) k),
    )

pub returns : goal.returns
returns c =
    let rows = c.args.rows.now in
    let e : min (length rows) 16 ≡ c.loop-i.i = omega arith in
    let m : c.loop-i.i ≡ min 16 (length rows) = omega arith in
    ap (λ n. take n c.loop-i.all) e ∙ c.loop-i.invariant.1 ∙ ap (λ n. map (λ r. r.shape) (take n rows)) m ∙ ap (map (λ r. r.shape)) (take_min 16 rows)
