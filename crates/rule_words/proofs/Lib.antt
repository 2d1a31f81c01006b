mod Ints
pub mod OpenParentheses
pub mod CellPieces
pub mod PieceTokens
pub mod Absent
pub mod Blocks
pub mod FirstPiece
pub mod StrangeWords
pub mod Sound
pub mod MarksRead
pub mod FunctionWords
