use Rattle.std.proofs.Common.{◌≡◌, ◌∙◌, ap, arith, length, not, rules, string_bytes, sym, true, true≢false}
use Rattle.std.specs.Str.{bytes_eq}
use Rattle.std.proofs.lemmas.Slice.Eq.{bytes_eq-Decides}
use Rattle.alloc_tool.proofs.OneGen.{asked_by, first_word, gen_words}
use Rattle.alloc_tool.proofs.generate.wanted_by.Goals.{then-words-ne3-via-then-words-ne3, then-words-ne3-via-else-words-ne3+then-ne}
use Rattle.alloc_tool.proofs.generate.wanted_by.Goals as goal

pub returns : goal.returns
returns c =
    let three : length c.args.words.now ≡ 3 = search rules in
    let name : string_bytes c.index-words-0.result ≡ c.args.word.now = search rules in
    let seed : c.as_bytes.result.now ≡ string_bytes c.index-words-1.result = search rules in
    let objects : c.as_bytes-2.result.now ≡ string_bytes c.index-words-2.result = search rules in
    asked_by c.args.word.now c.args.words.now c.index-words-0.result c.index-words-1.result c.index-words-2.result c.as_bytes.result.now c.as_bytes-2.result.now three name c.index-words-0.is c.index-words-1.is c.index-words-2.is seed objects
    c.read_words.result c.read_words.ensures

pub returns-then-words-ne3 : goal.returns-then-words-ne3
returns-then-words-ne3 c = λ seed objects is.
    let three = gen_words _ c.args.words.now seed objects is in
    elim c.then-words-ne3.branch [
      | then-words-ne3-via-then-words-ne3 w ↦ absurd (let other = w.if-words-ne3.true in omega arith)
      | then-words-ne3-via-else-words-ne3+then-ne w ↦
          (let same : string_bytes w.index-words-0.result ≡ c.args.word.now = first_word _ c.args.words.now w.index-words-0.result seed objects w.index-words-0.is is in
          let equal : bytes_eq w.as_str.result.now c.args.word.now ≡ true = (bytes_eq-Decides w.as_str.result.now c.args.word.now).1 (w.as_str.ensures.value ∙ same) in
          absurd (true≢false (sym w.if-ne.true ∙ w.ne.ensures ∙ ap not equal)))
    ]
