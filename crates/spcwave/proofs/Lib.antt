-- WholeRun: a run is what its command did, and then its complaint.
pub mod WholeRun
