-- BlindRuns: runs of machines whose chips differ in what no read that is made shows.
-- AlikeChips: S-DSPs that differ in volumes of muted voices alone.
-- AlikeFiles: what files give that differ there alone.
-- ShownRuns: runs in which nothing is hidden.
-- TracedRuns: runs in which other voices are traced.
pub mod BlindRuns
pub mod AlikeChips
pub mod AlikeFiles
pub mod ShownRuns
pub mod TracedRuns
