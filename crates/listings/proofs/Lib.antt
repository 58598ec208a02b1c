-- Why a thread that is followed to its end lists its set.
pub mod Trails
