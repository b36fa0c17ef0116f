use Rattle.std.proofs.Common.{◌≡◌, ◌+◌, ◌-◌, ◌*◌, ◌<◌, min, [], ◌++◌, length, get_or, take, drop, replicate, sym, ap, ◌∙◌, arith, length-take}
use Rattle.std.proofs.lemmas.List.{get_or-take, take_min}
use Rattle.std.proofs.lemmas.List.Elements.{All-from_get_or}
use Rattle.encode.specs.Filled.{in_row}
use Rattle.encode.proofs.Rows.{put_next, row_more, row_below}
use Rattle.encode.proofs.fill.put_records.Goals as goal

pub loop-i-preserved : goal.loop-i-preserved
loop-i-preserved c =
    let xs = c.args.records.now in
    let n = c.min.result in
    let i = c.loop-i.i in
    let some : i < length (take n xs) = omega arith in
    let few = length-take n xs in
    let x = get_or xs i [] in
    let same : get_or (take n xs) i [] ≡ x = get_or-take n xs i [] (omega (arith, few)) in
    let long : length (in_row (take i xs)) ≡ 16 * i = row_below xs (All-from_get_or (λ r. length r ≡ 16) xs [] c.told-records) i (omega (arith, few)) in
    let zeros : 512 - 16 * i - length x ≡ 512 - 16 * (i + 1) = omega (arith, c.told-records i (omega (arith, few))) in
    c.put.ensures
    ∙ ap (λ y. take (16 * i) c.loop-i.bytes ++ (y ++ drop (16 * i + length y) c.loop-i.bytes)) same
    ∙ ap (λ b. take (16 * i) b ++ (x ++ drop (16 * i + length x) b)) c.loop-i.invariant
    ∙ put_next (in_row (take i xs)) x (16 * i) (512 - 16 * i) long
    ∙ ap (λ r. r ++ replicate (512 - 16 * i - length x) 0) (sym (row_more xs i (omega (arith, few))))
    ∙ ap (λ k. in_row (take (i + 1) xs) ++ replicate k 0) zeros

pub returns : goal.returns
returns c =
    let xs = c.args.records.now in
    let n = c.min.result in
    let few = length-take n xs in
    let last : c.loop-i.i ≡ length (take n xs) = omega arith in
    let all : c.loop-i.i ≡ min 31 (length xs) = omega (arith, few, c.min.ensures) in
    record {
      taken = omega (arith, few, c.min.ensures);
      exact = c.loop-i.invariant
          ∙ ap (λ r. in_row r ++ replicate (512 - 16 * c.loop-i.i) 0) (ap (λ k. take k xs) all ∙ take_min 31 xs)
          ∙ ap (λ k. in_row (take 31 xs) ++ replicate (512 - 16 * k) 0) last;
    }
