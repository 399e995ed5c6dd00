-- What the proof needs: that a sheet that is not refused has room.
pub mod Text
