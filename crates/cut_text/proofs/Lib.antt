-- FirstLine: the first line of a text.
pub mod FirstLine
-- Growing: a list that grows by what a line says.
pub mod Growing
-- Listed: a list of cuts that grows by the cut of a line.
pub mod Listed
-- Said: what the lines of a text say after a list of lines.
pub mod Said
-- ThirdWord: a line of more than two words.
pub mod ThirdWord
