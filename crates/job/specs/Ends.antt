-- What a call answers that reads texts and does the job that they say: the words are those of `job_texts`.
pub use Rattle.job_texts.specs.Ends.{and_then, as_job, InOneThread, OnThreads, IsHalted, Ends, always, IsLate, Does}
