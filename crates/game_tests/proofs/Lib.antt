mod Worked
mod WorkedMoves
mod WorkedText
