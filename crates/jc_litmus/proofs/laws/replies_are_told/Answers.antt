use Rattle.jc_litmus.proofs.ReplyTexts.{replies_back, replies_told, silence_told}
use Rattle.jc_litmus.proofs.laws.replies_are_told.Goals as goal

pub returns-clause-told : goal.returns-clause-told
returns-clause-told c = replies_told (replies_back c.words_read_back.ensures.numbers c.words_read_back.ensures.values)

pub returns-clause-silence : goal.returns-clause-silence
returns-clause-silence c = silence_told (replies_back c.words_read_back.ensures.numbers c.words_read_back.ensures.values)

pub returns-clause-back : goal.returns-clause-back
returns-clause-back c = replies_back c.words_read_back.ensures.numbers c.words_read_back.ensures.values
