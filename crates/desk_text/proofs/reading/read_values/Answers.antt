use Rattle.std.proofs.Common.{◌∷◌, [], length-append, arith}
use Rattle.desk_text.specs.declared.value.Field.TheVariants as fields
use Rattle.desk_text.proofs.ValueSteps.{reads_on, reads_bad, reads_none, reads_all, fields_on, fields_all}
use Rattle.desk_text.proofs.reading.read_values.Goals as goal

pub returns-in-Err-clause-values : goal.returns-in-Err-clause-values
returns-in-Err-clause-values c =
    reads_none _ _ _ c.args.shape.now c.loop-field.field-index fields.U16 _ _ c.loop-field.invariant.values
    c.loop-field-test.true (c.in-Err.ensures).word

pub returns-in_default-clause-values : goal.returns-in_default-clause-values
returns-in_default-clause-values c =
    rw (c.at.ensures, c.word_fault.ensures) (reads_bad _ _ _ c.args.shape.now c.loop-field.field-index _ _ _ _
    c.loop-field.invariant.values c.loop-field-test.true c.in-Ok.ensures.word c.in_default.ensures.value)

pub loop-field-preserved : goal.loop-field-preserved
loop-field-preserved c =
    record {
      place = omega (arith, c.loop-field.invariant.place);
      count =
          rw c.push.ensures.items
          (omega (arith, c.loop-field.invariant.count, length-append c.loop-field.values.items (c.in-Some.value ∷ [])));
      shape =
          rw c.push.ensures.items (fields_on _ _ c.args.shape.now c.loop-field.field-index _ c.loop-field-test.true
          c.loop-field.invariant.shape c.in-Some.ensures.field);
      values =
          rw c.push.ensures.items (reads_on _ _ _ c.args.shape.now c.loop-field.field-index _ _ _ _ _
          c.loop-field.invariant.values c.loop-field-test.true c.in-Ok.ensures.word c.in-Some.ensures.value);
      shorter = omega (arith, c.loop-field.invariant.shorter, c.in-Ok.ensures.shorter);
    }

pub returns-clause-values : goal.returns-clause-values
returns-clause-values c =
    reads_all _ _ _ c.args.shape.now c.loop-field.field-index _ c.loop-field.invariant.values c.loop-field-test.false

pub returns-clause-shape : goal.returns-clause-shape
returns-clause-shape c =
    fields_all _ c.args.shape.now c.loop-field.field-index c.loop-field-test.false c.loop-field.invariant.shape
