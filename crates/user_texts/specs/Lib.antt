pub mod VersionText
