-- the options of `render`
pub mod Options
-- what `render` answers
pub mod Render
