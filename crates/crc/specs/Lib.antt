pub mod CheckByte
pub mod ShiftTable
