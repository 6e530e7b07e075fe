use Rattle.std.proofs.Common.{◌<◌, length, get_or, take, refl, sym, ap, ◌∙◌, arith, length-append}
use Rattle.level.specs.Few.{Few, with_one}
use Rattle.level.specs.Numbers.{instruction_places}
use Rattle.level.proofs.FewLists.{few_push}
use Rattle.validation.specs.Kept.{numbered}
use Rattle.validation.specs.declared.Numbered.{Numbered}
use Rattle.validation_groups.specs.Working.{no_numbered, numbered_at, sequence_of}
use Rattle.validation_kept.proofs.Late.{number_more}
use Rattle.validation_kept.proofs.number_all.Goals as goal

pub loop-i-init : goal.loop-i-init
unfolding numbered
loop-i-init c = rw c.none-out.ensures (record { few = omega arith; out_is = refl })

pub loop-i-preserved : goal.loop-i-preserved
loop-i-preserved c =
    let is = c.args.instructions.now in
    let l = c.loop-i in
    let x = numbered_at l.i (get_or is l.i no_numbered.instruction) in
    let here : l.i < length is = omega arith in
    record {
      few = rw c.push.ensures (simp length-append (omega (arith, l.invariant.few)));
      out_is = c.push.ensures ∙ (ap (λ (v : Few Numbered). with_one v x) l.invariant.out_is
          ∙ (few_push instruction_places no_numbered (numbered 1 (take l.i is)) x ∙ ap sequence_of (sym (number_more is l.i here))));
    }
