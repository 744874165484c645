-- OptionWords: options with values, word by word.
pub mod OptionWords
-- EncodeWords: the options of `encode`, word by word.
pub mod EncodeWords
