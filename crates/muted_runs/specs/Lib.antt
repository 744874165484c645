-- Watching: a machine that notes whether its program read what is hidden from it.
-- MutedFiles: files that differ in volumes of muted voices alone, and what runs of them give.
-- Tracing: that a tune gives the same frames whichever voices are traced.
pub mod Watching
pub mod MutedFiles
pub mod Tracing
