-- Muting: what muted voices still do, and what is left when all are muted.
-- MutedVolumes: chips that differ in volumes of muted voices alone.
pub mod Muting
pub mod MutedVolumes
