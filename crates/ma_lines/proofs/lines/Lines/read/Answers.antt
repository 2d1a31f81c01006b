use Rattle.std.proofs.Common.{rules, tests, ◌≡◌, ◌+◌, ℕ, Bool, false, length, ap, refl, ◌∙◌, arith, Bor}
use Rattle.std.proofs.lemmas.Iterator.Consumers.{YieldsList-turn, YieldsList-end}
use Rattle.std.proofs.lemmas.List.{length_push}
use Rattle.std.proofs.lemmas.Iterator.Splits.{YieldsList-from_slice_split}
use Rattle.std.specs.declared.result.Result.TheVariants.{Err}
use Rattle.std.specs.Option.{option_map}
use Rattle.std.specs.Fn.{CalledAt}
use Rattle.std.specs.Slice.Iter as slice
use Rattle.std.specs.declared.slice.Split.{Split}
use Rattle.std.proofs.lemmas.Iterator.{YieldsList}
use denote.Param.Members.{Mut}
use Rattle.quantity.specs.Bytes.{Bytes, is_byte}
use Rattle.source_text.specs.Lines.{lines_of, text_of_line}
use Rattle.ma_lines.specs.Reader.{line_of, opened_of, reading_of}
use Rattle.ma_lines.specs.Reading.{braces_in, read_from}
use Rattle.ma_lines.proofs.LineByLine.{read_line_by_line}
use Rattle.ma_lines.proofs.Numbered.{number_below, pieces_of, read_on, read_whole, refused_here, total_few, total_more}
use Rattle.ma_lines.proofs.Steps.{next_le, text_within}
use Rattle.ma_lines.proofs.lines.Lines.read.Goals as goal

-- the lines that the loop goes over are the pieces of the file
road : {F : Type 0} (g : Mut F (Bor ℕ × Unit {0}) Bool) (bytes : Bytes) {s made : Split ℕ F} {f : F} → s ≡ made → slice.split_rest made ≡ bytes → slice.split_done made ≡ false → slice.split_callee made ≡ f
    → ((x : ℕ) (b : Bool) (q : F) → CalledAt g f x b q → (q ≡ f) × (b ≡ is_byte 10 x)) → YieldsList (slice.split_steps g) (λ x. x.now) s (pieces_of bytes)
road g bytes is rest done callee tests =
    YieldsList-from_slice_split g (is_byte 10) bytes (ap slice.split_rest is ∙ rest) (ap slice.split_done is ∙ done) (ap slice.split_callee is ∙ callee) tests

pub loop-line-init : goal.loop-line-init
loop-line-init c =
    record {
      reads = ap (λ r. read_from r (lines_of c.args.bytes.now)) c.new-reader.ensures ∙ read_line_by_line c.args.bytes.now;
      counted = refl;
      braces = omega (arith, ap (λ r. braces_in r.open_entry) c.new-reader.ensures);
    }

pub take_line-requires-clause-numbered : goal.take_line-requires-clause-numbered
take_line-requires-clause-numbered c = λ some.
    let t = YieldsList-turn (road _ c.args.bytes.now c.into_iter-line-iterator.ensures.into_iter_gives c.split-line-items.ensures.rest c.split-line-items.ensures.done c.split-line-items.ensures.closure (λ x b q h. search (rules, tests)))
    c.loop-line.yielded _ c.loop-line.yielded_by _ _ c.in-Some.line c.in-Some.is c.next.ensures.steps in
    omega (arith, number_below c.args.bytes.now (length c.loop-line.yielded) c.in-Some.line.now t.0 t.1)

pub take_line-requires-clause-few : goal.take_line-requires-clause-few
take_line-requires-clause-few c =
    let t = YieldsList-turn (road _ c.args.bytes.now c.into_iter-line-iterator.ensures.into_iter_gives c.split-line-items.ensures.rest c.split-line-items.ensures.done c.split-line-items.ensures.closure (λ x b q h. search (rules, tests)))
    c.loop-line.yielded _ c.loop-line.yielded_by _ _ c.in-Some.line c.in-Some.is c.next.ensures.steps in
    omega (arith, c.loop-line.invariant.braces, total_more c.args.bytes.now (length c.loop-line.yielded) c.in-Some.line.now t.0 t.1, total_few c.args.bytes.now (length c.loop-line.yielded + 1))

pub loop-line-preserved : goal.loop-line-preserved
loop-line-preserved c =
    let t = YieldsList-turn (road _ c.args.bytes.now c.into_iter-line-iterator.ensures.into_iter_gives c.split-line-items.ensures.rest c.split-line-items.ensures.done c.split-line-items.ensures.closure (λ x b q h. search (rules, tests)))
    c.loop-line.yielded _ c.loop-line.yielded_by _ _ c.in-Some.line c.in-Some.is c.next.ensures.steps in
    let k = length c.loop-line.yielded in
    let more = length_push c.loop-line.yielded c.in-Some.line in
    record {
      reads = rw more (read_on c.args.bytes.now c.loop-line.number k c.in-Some.line.now (reading_of c.loop-line.reader) (reading_of c.take_line.new.self)
          c.loop-line.invariant.counted t.0 t.1 c.loop-line.invariant.reads c.in_ok-take_line.ensures.allowed c.in_ok-take_line.ensures.taken);
      counted = omega (arith, more, c.loop-line.invariant.counted);
      braces = rw more (omega (
        arith,
        c.loop-line.invariant.braces,
        ap (λ r. braces_in r.open_entry) c.in_ok-take_line.ensures.taken,
        next_le c.loop-line.reader.sections (option_map opened_of c.loop-line.reader.open_entry) (line_of (c.loop-line.number + 1) (text_of_line c.in-Some.line.now)),
        text_within c.in-Some.line.now,
        total_more c.args.bytes.now k c.in-Some.line.now t.0 t.1,
      ));
    }

pub returns-in_err-take_line : goal.returns-in_err-take_line
returns-in_err-take_line c = λ kept.
    let t = YieldsList-turn (road _ c.args.bytes.now c.into_iter-line-iterator.ensures.into_iter_gives c.split-line-items.ensures.rest c.split-line-items.ensures.done c.split-line-items.ensures.closure (λ x b q h. search (rules, tests)))
    c.loop-line.yielded _ c.loop-line.yielded_by _ _ c.in-Some.line c.in-Some.is c.next.ensures.steps in
    let is : c.from_residual.result ≡ Err c.in_err-take_line.field-0.0 = search rules in
    is ∙ refused_here c.args.bytes.now c.loop-line.number (length c.loop-line.yielded) c.in-Some.line.now (reading_of c.loop-line.reader) c.in_err-take_line.field-0.0
    c.loop-line.invariant.counted t.0 t.1 c.loop-line.invariant.reads (c.in_err-take_line.ensures.refused (λ memory. kept (is ∙ ap (λ why. Err why) memory)))

pub returns : goal.returns
returns c = λ kept.
    let t = YieldsList-end (road _ c.args.bytes.now c.into_iter-line-iterator.ensures.into_iter_gives c.split-line-items.ensures.rest c.split-line-items.ensures.done c.split-line-items.ensures.closure (λ x b q h. search (rules, tests)))
    c.loop-line.yielded _ c.loop-line.yielded_by _ _ c.in-None.is c.next.ensures.steps in
    c.finish.ensures ∙ read_whole c.args.bytes.now (length c.loop-line.yielded) (reading_of c.loop-line.reader) t.1 c.loop-line.invariant.reads
