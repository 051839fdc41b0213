pub mod Scavenges
