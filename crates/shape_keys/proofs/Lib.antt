mod Sums
mod Rooms
mod Rising
mod Spelled
mod Shortest
