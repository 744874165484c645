-- Directory: where a voice's sample begins and where it loops to.
-- Voice: what a voice is, and its step as a sequence of changes.
-- Inside: the fields of a voice, and what holds of them.
-- KeyBits: the key-ons of all samples of a batch in one byte. Batch: a voice over a batch of samples.
-- RunOfVoice: the same with what each step gives.
pub mod Directory
pub mod Voice
pub mod Inside
pub mod KeyBits
pub mod Batch
pub mod RunOfVoice
