-- The definitions that the contracts of the containers use, passed on. If two crates have files of the same
-- name, the name here begins with that of the container, such as `MapLends`.
pub use Rattle.hashlink_model.specs.Algebra
pub use Rattle.hashlink_model.specs.Cache
pub use Rattle.hashlink_history.specs.CacheRuns
pub use Rattle.hashlink_model.specs.Compare
pub use Rattle.hashlink_model.specs.Cursor
pub use Rattle.hashlink_model.specs.Entries
pub use Rattle.hashlink_model.specs.Entry
pub use Rattle.hashlink_history.specs.History
pub use Rattle.hashlink_history.specs.Inclusion
pub use Rattle.hashlink_model.specs.Lookups
pub use Rattle.hashlink_model.specs.Many
pub use Rattle.hashlink_model.specs.MapState
pub use Rattle.hashlink_history.specs.Peak
pub use Rattle.hashlink_model.specs.Retain
pub use Rattle.hashlink_model.specs.Sets
pub use Rattle.hashlink_model.specs.Steps
pub use Rattle.hashlink_model.specs.Walk
pub use Rattle.hashlink_model.specs.Weights
pub use Rattle.hashlink_core.specs.Hashing
pub use Rattle.hashlink_core.specs.Keyed
pub use Rattle.hashlink_core.specs.KeyedLends
pub use Rattle.hashlink_core.specs.Places
pub use Rattle.hashlink_core.specs.Telling
pub use Rattle.hashlink_core.specs.Tied
pub use Rattle.hashlink_map.specs.Cloning
pub use Rattle.hashlink_map.specs.Compared as MapCompared
pub use Rattle.hashlink_map.specs.Cursor as MapCursor
pub use Rattle.hashlink_map.specs.CursorLends as MapCursorLends
pub use Rattle.hashlink_map.specs.Drain as MapDrain
pub use Rattle.hashlink_map.specs.Entry as MapEntry
pub use Rattle.hashlink_map.specs.EntryLends as MapEntryLends
pub use Rattle.hashlink_map.specs.Extending
pub use Rattle.hashlink_map.specs.Indexed
pub use Rattle.hashlink_map.specs.InsertLends as MapInsertLends
pub use Rattle.hashlink_map.specs.IterMut
pub use Rattle.hashlink_map.specs.IterMutLends
pub use Rattle.hashlink_map.specs.Joined
pub use Rattle.hashlink_map.specs.Lends as MapLends
pub use Rattle.hashlink_map.specs.RawEntry
pub use Rattle.hashlink_map.specs.RawLends
pub use Rattle.hashlink_map.specs.Reading
pub use Rattle.hashlink_map.specs.Standing
pub use Rattle.hashlink_map.specs.Texts
pub use Rattle.hashlink_map.specs.TryInsert
pub use Rattle.hashlink_map.specs.WithoutFirst
pub use Rattle.hashlink_map.specs.WritingWalk
pub use Rattle.hashlink_set.specs.Elements as SetElements
pub use Rattle.hashlink_set.specs.Walks as SetWalks
pub use Rattle.hashlink_set.specs.Answers as SetAnswers
pub use Rattle.hashlink_set.specs.Called as SetCalled
pub use Rattle.hashlink_set.specs.Cloned as SetCloned
pub use Rattle.hashlink_set.specs.Compared as SetCompared
pub use Rattle.hashlink_set.specs.Drain as SetDrain
pub use Rattle.hashlink_set.specs.Made as SetMade
pub use Rattle.hashlink_set.specs.SetLends
pub use Rattle.hashlink_lru.specs.Cached
pub use Rattle.hashlink_lru.specs.Evicted
pub use Rattle.hashlink_lru.specs.Lends as CacheLends
pub use Rattle.hashlink_weighted.specs.Answers
pub use Rattle.hashlink_weighted.specs.Evicted as WeightedEvicted
pub use Rattle.hashlink_weighted.specs.Lends as WeightedLends
pub use Rattle.hashlink_weighted.specs.Weighed
pub use Rattle.hashlink_curve.specs.Curve
pub use Rattle.hashlink_text.specs.Lines
pub use Rattle.hashlink_text.specs.Spelling
pub use Rattle.hashlink_run.specs.CacheCalls
pub use Rattle.hashlink_run.specs.CacheLaws
pub use Rattle.hashlink_run.specs.CacheRun
pub use Rattle.hashlink_run.specs.CacheStep
pub use Rattle.hashlink_text.specs.CacheTranscript
pub use Rattle.hashlink_run.specs.CallReplies
pub use Rattle.hashlink_run.specs.Chain
pub use Rattle.hashlink_run.specs.CursorSteps
pub use Rattle.hashlink_run.specs.EntrySteps
pub use Rattle.hashlink_text.specs.Faults
pub use Rattle.hashlink_run.specs.Keeps
pub use Rattle.hashlink_run.specs.Reads
pub use Rattle.hashlink_run.specs.Run
pub use Rattle.hashlink_run.specs.Step
pub use Rattle.hashlink_run.specs.WeightedStep
pub use Rattle.hashlink_text.specs.Text
pub use Rattle.hashlink_text.specs.Transcript
pub use Rattle.hashlink_text.specs.WeightedTranscript
