mod EightBytes
mod FirstFlags
