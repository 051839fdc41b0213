use Rattle.std.proofs.Common.{◌≡◌, ℕ, List, length, ap, ◌∙◌, arith, false}
use Rattle.std.specs.Fmt.{digits}
use Rattle.heap_text.specs.Text.{numbers_of}
use Rattle.heap_text.proofs.Writing.{line_form, more_length, shown_short}
use Rattle.heap_text.proofs.write.push_line.Goals as goal

pub push-requires-2 : goal.push-requires-2
push-requires-2 c =
    let none = ap (λ (l : List ℕ). length l) c.requires.empty in
    let four = c.push_four.ensures.short in
    let mark = more_length c.push.new.self c.push_four.new.text _ c.push.ensures in
    let stack = shown_short c.as_slice.result.now c.new-stack.result c.from.result (c.as_slice.ensures.text ∙ c.push_hexadecimal.ensures.text) c.new-stack.ensures (let same = c.from.ensures in omega arith) in
    omega arith

pub push-requires-3 : goal.push-requires-3
push-requires-3 c =
    let none = ap (λ (l : List ℕ). length l) c.requires.empty in
    let four = c.push_four.ensures.short in
    let mark = more_length c.push.new.self c.push_four.new.text _ c.push.ensures in
    let stack = shown_short c.as_slice.result.now c.new-stack.result c.from.result (c.as_slice.ensures.text ∙ c.push_hexadecimal.ensures.text) c.new-stack.ensures (let same = c.from.ensures in omega arith) in
    let more = more_length c.push-2.new.self c.push.new.self _ c.push-2.ensures in
    omega arith

pub returns-clause-text : goal.returns-clause-text
returns-clause-text c = rw (
  c.push-3.ensures,
  c.push-2.ensures,
  c.as_slice.ensures.text,
  c.push_hexadecimal.ensures.text,
  c.new-stack.ensures,
  c.from.ensures,
  c.push.ensures,
  c.push_four.ensures.text,
  c.requires.empty,
  c.of.ensures,
) (line_form (numbers_of c.args.line.now) (digits 16 false c.args.line.now.stack))

pub returns-clause-short : goal.returns-clause-short
returns-clause-short c =
    let none = ap (λ (l : List ℕ). length l) c.requires.empty in
    let four = c.push_four.ensures.short in
    let mark = more_length c.push.new.self c.push_four.new.text _ c.push.ensures in
    let stack = shown_short c.as_slice.result.now c.new-stack.result c.from.result (c.as_slice.ensures.text ∙ c.push_hexadecimal.ensures.text) c.new-stack.ensures (let same = c.from.ensures in omega arith) in
    let more = more_length c.push-2.new.self c.push.new.self _ c.push-2.ensures in
    let end = more_length c.push-3.new.self c.push-2.new.self _ c.push-3.ensures in
    omega arith
