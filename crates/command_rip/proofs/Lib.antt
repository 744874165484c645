-- Digits: hexadecimal digits are characters of ASCII.
pub mod Digits
-- Planless: where there is no plan.
pub mod Planless
-- Wanted: the wanted ones of the first entries.
pub mod Wanted
