use Rattle.std.proofs.Common.{◌≡◌, ◌++◌, length, drop, ap, ◌∙◌, arith}
use Rattle.lines_text.proofs.Digits.{as_printed}
use Rattle.lines_text.proofs.put_decimal.Goals as goal

pub write_digits-requires : goal.write_digits-requires
write_digits-requires c =
    let w = c.decimal_width-width.ensures in
    (omega (arith, w.count_is, ap length (as_printed c.args.v (omega arith))), omega (arith, w.count_is))

pub returns : goal.returns
returns c =
    let w = c.decimal_width-width.ensures in
    let same = as_printed c.args.v (omega arith) in
    let from : c.write_digits.result ≡ 0 = omega (arith, w.count_is, ap length same, c.write_digits.ensures.start) in
    record {
      count_is = w.count_is;
      bytes = rw from at c.write_digits.ensures.written ∙ (λ i. same i ++ drop (w.count_is i) c.args.out.now);
    }
