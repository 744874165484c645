-- how many outputs a host may have created before a run
pub mod FewOutputs
-- what comes of what the command line gives
pub mod Given
