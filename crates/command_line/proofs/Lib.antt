mod Commands
mod Shapes
mod Subcommands
