-- what a render reports
pub mod RenderReport
-- what contracts see of a render that is turned into files
pub mod RenderFiles
