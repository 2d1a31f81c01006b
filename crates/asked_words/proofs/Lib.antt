mod Matched
mod Taken
mod Tables
mod Fewer
mod Drafted
mod Lowered
mod Drawing
