pub mod DrawingBits
