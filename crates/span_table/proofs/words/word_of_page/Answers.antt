use Rattle.span_table.proofs.words.word_of_page.Goals as goal

pub returns : goal.returns
returns c = c.page_word.ensures 0
