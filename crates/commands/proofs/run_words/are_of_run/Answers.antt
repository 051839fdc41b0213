use Rattle.std.proofs.Common.{◌≡◌, refl, rules, codes, length, string_bytes}
use Rattle.commands.proofs.RunForms.{none_known, texts_four, texts_one, texts_three, texts_two, told_of_run}
use Rattle.commands.proofs.run_words.are_of_run.Goals as goal

pub returns-in-1 : goal.returns-in-1
returns-in-1 c =
    let n : length c.args.words.now ≡ 1 = search rules in
    let name : string_bytes c.index-words-0.result ≡ codes "run" = search rules in
    told_of_run _ _ _ _ (texts_one c.args.words.now c.index-words-0.result n c.index-words-0.is) name (λ _. none_known, λ _. refl)

pub returns-in-2 : goal.returns-in-2
returns-in-2 c =
    let n : length c.args.words.now ≡ 2 = search rules in
    let name : string_bytes c.index-words-0.result ≡ codes "run" = search rules in
    told_of_run _ _ _ _ (texts_two c.args.words.now c.index-words-0.result c.index-words-1.result n c.index-words-0.is c.index-words-1.is) name (rw c.as_str-in-2.ensures.value at c.is_one.ensures)

pub returns-in-3 : goal.returns-in-3
returns-in-3 c =
    let n : length c.args.words.now ≡ 3 = search rules in
    let name : string_bytes c.index-words-0.result ≡ codes "run" = search rules in
    told_of_run _ _ _ _ (texts_three c.args.words.now c.index-words-0.result c.index-words-1-in-3.result c.index-words-2.result n c.index-words-0.is c.index-words-1-in-3.is c.index-words-2.is) name
    (rw (c.as_str-in-3.ensures.value, c.as_str-in-3-2.ensures.value) at c.are_two.ensures)

pub returns-in-4 : goal.returns-in-4
returns-in-4 c =
    let n : length c.args.words.now ≡ 4 = search rules in
    let name : string_bytes c.index-words-0.result ≡ codes "run" = search rules in
    told_of_run _ _ _ _
    (texts_four c.args.words.now c.index-words-0.result c.index-words-1-in-4.result c.index-words-2-in-4.result c.index-words-3.result n c.index-words-0.is c.index-words-1-in-4.is c.index-words-2-in-4.is c.index-words-3.is) name
    (rw (c.as_str-in-4.ensures.value, c.as_str-in-4-2.ensures.value, c.as_str-in-4-3.ensures.value) at c.are_three.ensures)
