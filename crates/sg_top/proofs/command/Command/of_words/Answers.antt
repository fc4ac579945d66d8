-- One word says what it says alone, and two and three what they say together.
use Rattle.sg_top.proofs.Commands.{one_of, one_word_says, three_of, three_words_say, two_of, two_words_say}
use Rattle.sg_top.proofs.command.Command.of_words.Goals as goal

pub returns-in-len1 : goal.returns-in-len1
returns-in-len1 c =
    one_word_says c.args.words.now c.word-item.result c.as_str.result.now c.of_word.result
    (one_of c.args.words.now c.word-item.result c.in-len1.len_at_least c.in-len1.len_below c.word-item.is) c.as_str.ensures.value c.of_word.ensures

pub returns-in-len2 : goal.returns-in-len2
returns-in-len2 c =
    two_words_say c.args.words.now c.word-item-then-words-lt3.result c.more-item.result c.as_str-in-len2.result.now c.as_str-in-len2-2.result.now c.of_two_words.result
    (two_of c.args.words.now c.word-item-then-words-lt3.result c.more-item.result c.in-len2.len_at_least c.in-len2.len_below c.word-item-then-words-lt3.is c.more-item.is)
    c.as_str-in-len2.ensures.value c.as_str-in-len2-2.ensures.value c.of_two_words.ensures

pub returns-in-len3 : goal.returns-in-len3
returns-in-len3 c =
    three_words_say c.args.words.now c.word-item-then-words-lt4.result c.name-item.result c.digits-item.result c.as_str-in-len3.result.now c.as_str-in-len3-2.result.now
    c.as_str-in-len3-3.result.now c.of_three_words.result
    (three_of c.args.words.now c.word-item-then-words-lt4.result c.name-item.result c.digits-item.result c.in-len3.len_at_least c.in-len3.len_below c.word-item-then-words-lt4.is
    c.name-item.is c.digits-item.is) c.as_str-in-len3.ensures.value c.as_str-in-len3-2.ensures.value c.as_str-in-len3-3.ensures.value c.of_three_words.ensures
