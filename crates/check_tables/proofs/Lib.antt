mod ByBeats
